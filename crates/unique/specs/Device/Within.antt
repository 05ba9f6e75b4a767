-- No piece of elements has a number that is over range: what is written under the grammar is answered as itself. Rests on grammar's Pieces and Ranges.
use mathlib.Core.List.{List, [], ◌∷◌}
use Rattle.std.specs.Prelude.{ℕ, ◌+◌}
use Rattle.grammar.specs.Grammar.{Position, next, number, word, Width, implied, fixed, by_argument, by_name, Precision, undotted, star, dot, SpecText, format_spec, unmodified, modifier, free_text, Tail, bare, colon, Element, run, opened, closed, placeholder}
use Rattle.grammar.specs.Pieces.{tail_at, end_of, past_tail, past_inside, place_of, count_of, precision_of, format_at, spec_at, after_place, argument_at, pieces_of}
use Rattle.grammar.specs.Ranges.{PlaceWithin, CountWithin, NoneOver}

place_within : (p n : ℕ) (x : Position) → PlaceWithin (place_of p n x)
place_within p n next = tt
place_within p n (number d ds) = tt
place_within p n (word c r) = tt

module _ (q : ℕ) where
  width_within : (p : ℕ) (w : Width) → CountWithin (count_of q p w)
  width_within p implied = tt
  width_within p (fixed d ds) = tt
  width_within p (by_argument d ds) = tt
  width_within p (by_name c r) = tt

  precision_within : (p n : ℕ) (x : Precision) → CountWithin (precision_of q p n x)
  precision_within p n undotted = tt
  precision_within p n star = tt
  precision_within p n (dot w) = width_within (p + 1) w

  spec_within : (p n : ℕ) (x : SpecText) → CountWithin (spec_at q p n x).width × CountWithin (spec_at q p n x).precision
  unfolding format_at
  spec_within p n (format_spec f) = (width_within _ f.width, precision_within _ n f.precision)
  spec_within p n unmodified = (tt, tt)
  spec_within p n (modifier c r) = (tt, tt)
  spec_within p n (free_text r) = (tt, tt)

  tail_within : (p n : ℕ) (x : Tail) → CountWithin (after_place q p n x).width × CountWithin (after_place q p n x).precision
  tail_within p n bare = (tt, tt)
  tail_within p n (colon s w) = spec_within p n s

  pub none_over : (p n : ℕ) (es : List Element) → NoneOver (pieces_of q p n es)
  unfolding pieces_of argument_at
  none_over p n [] = tt
  none_over p n (run c r ∷ es) = none_over (end_of p (run c r)) n es
  none_over p n (opened r ∷ es) = none_over (end_of p (opened r)) n es
  none_over p n (closed r ∷ es) = none_over (end_of p (closed r)) n es
  none_over p n (placeholder a ∷ es) =
      let counts = tail_within (tail_at p a) n a.tail in
      (place_within (p + 1) (past_tail n a.tail) a.position, counts.0, counts.1, none_over (end_of p (placeholder a)) (past_inside n a) es)
