-- Implicit places and stars of the pieces of elements go n, n + 1, n + 2 onward, a star before its own place. Rests on grammar's Pieces and Numbering.
use Rattle.std.specs.Prelude.{refl, ℕ, ◌+◌}
use mathlib.Core.List.{List, [], ◌∷◌}
use Rattle.grammar.specs.Grammar.{Position, next, number, word, Width, implied, fixed, by_argument, by_name, Precision, undotted, star, dot, SpecText, format_spec, unmodified, modifier, free_text, Tail, bare, colon, Element, run, opened, closed, placeholder}
use Rattle.grammar.specs.Pieces.{tail_at, end_of, past_precision, past_spec, past_tail, past_position, past_inside, place_of, count_of, precision_of, format_at, spec_at, after_place, argument_at, pieces_of}
use Rattle.grammar.specs.Numbering.{star_number, place_number, numbers, UpFrom}

-- a place takes the next number where it is not written
place_up : (p n : ℕ) (x : Position) (ns : List ℕ) → UpFrom (past_position n x) ns → UpFrom n (place_number (place_of p n x) ns)
place_up p n next ns u = (refl, u)
place_up p n (number d ds) ns u = u
place_up p n (word c r) ns u = u

module _ (q : ℕ) where
  -- a width takes none
  width_up : (p n : ℕ) (w : Width) (ns : List ℕ) → UpFrom n ns → UpFrom n (star_number (count_of q p w) ns)
  width_up p n implied ns u = u
  width_up p n (fixed d ds) ns u = u
  width_up p n (by_argument d ds) ns u = u
  width_up p n (by_name c r) ns u = u

  -- a star takes the next
  precision_up : (p n : ℕ) (x : Precision) (ns : List ℕ) → UpFrom (past_precision n x) ns → UpFrom n (star_number (precision_of q p n x) ns)
  precision_up p n undotted ns u = u
  precision_up p n star ns u = (refl, u)
  precision_up p n (dot w) ns u = width_up (p + 1) n w ns u

  spec_up : (p n : ℕ) (x : SpecText) (ns : List ℕ) → UpFrom (past_spec n x) ns → UpFrom n (star_number (spec_at q p n x).precision ns)
  unfolding format_at
  spec_up p n (format_spec f) ns u = precision_up _ n f.precision ns u
  spec_up p n unmodified ns u = u
  spec_up p n (modifier c r) ns u = u
  spec_up p n (free_text r) ns u = u

  tail_up : (p n : ℕ) (x : Tail) (ns : List ℕ) → UpFrom (past_tail n x) ns → UpFrom n (star_number (after_place q p n x).precision ns)
  tail_up p n bare ns u = u
  tail_up p n (colon s w) ns u = spec_up p n s ns u

  pub numbered : (p n : ℕ) (es : List Element) → UpFrom n (numbers (pieces_of q p n es))
  unfolding numbers pieces_of argument_at
  numbered p n [] = tt
  numbered p n (run c r ∷ es) = numbered (end_of p (run c r)) n es
  numbered p n (opened r ∷ es) = numbered (end_of p (opened r)) n es
  numbered p n (closed r ∷ es) = numbered (end_of p (closed r)) n es
  numbered p n (placeholder a ∷ es) =
      let u = numbered (end_of p (placeholder a)) (past_inside n a) es in
      tail_up (tail_at p a) n a.tail _ (place_up (p + 1) (past_tail n a.tail) a.position _ u)
