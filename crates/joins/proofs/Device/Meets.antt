-- The pieces of joined elements are the pieces of both, met. Rests on Elements and on grammar's Pieces.
use Rattle.std.specs.Prelude.{◌≡◌, Bool, true, false, ℕ, ◌+◌, eqb, ltb, length}
use Rattle.std.proofs.Math.Path.{refl, ap}
use Rattle.std.proofs.Common.{sym, ◌∙◌, inl, inr, ne_eqb, length-append}
use mathlib.Core.List.{List, [], ◌∷◌, ◌++◌}
use native.Mathlib.Omega.{arith}
use Rattle.utf8.specs.Choice.{pick}
use Rattle.utf8.specs.ChoiceLaws.{pick_elim, both_false}
use Rattle.utf8.specs.Encode.{encode}
use Rattle.frame.specs.declared.Mode.{Mode}
use Rattle.grammar.specs.Grammar.{Plain, Position, next, number, word, Width, implied, fixed, by_argument, by_name, Precision, undotted, star, dot, SpecText, format_spec, unmodified, modifier, free_text, Tail, bare, colon, Element, run, opened, closed, placeholder, written_all, utf8, Reading}
use Rattle.grammar.specs.Pieces.{wide, size, end_of, tail_at, past_precision, past_spec, past_tail, past_position, past, place_of, count_of, precision_of, format_at, spec_at, after_place, argument_at, piece_at, pieces_of}
use Rattle.unique.specs.Device.Splits.{split}
use Rattle.unique.specs.Device.Stands.{size_append, size_split}
use Rattle.joins.specs.Joins.{implicit_in, stars_in, number_of_both, is_doubled, meeting, meet}
use Rattle.joins.proofs.Device.Elements.{joined, met}

-- WHERE ELEMENTS END, and the next argument's number past them
abbrev pub end_all : ℕ → List Element → ℕ
end_all p [] = p
end_all p (e ∷ es) = end_all (end_of p e) es

abbrev pub past_all : ℕ → List Element → ℕ
past_all n [] = n
past_all n (e ∷ es) = past_all (past n e) es

end_size : (p : ℕ) (es : List Element) → end_all p es ≡ p + size (written_all es [])
unfolding size
end_size p [] = omega arith
end_size p (e ∷ es) = omega (arith, end_size (end_of p e) es, size_split (split e) (written_all es []))

pub utf8_length : (cs : List ℕ) → length (utf8 cs) ≡ size cs
unfolding utf8 size wide
utf8_length [] = refl
utf8_length (c ∷ cs) = omega (arith, length-append (encode c) (utf8 cs), utf8_length cs)

-- a text's elements end where it does
pub end_length : (m : Mode) (t : List ℕ) (es : List Element) → Reading m t es → end_all 0 es ≡ 0 + length t
end_length m t es r = end_size 0 es ∙ ap (λ n. 0 + n) (sym (utf8_length (written_all es [])) ∙ ap length r.spelled)

-- THE NUMBER OF BOTH
place_count_lem : (p n : ℕ) (x : Position) → past_position n x ≡ n + implicit_in (place_of p n x)
place_count_lem p n next = refl
place_count_lem p n (number d ds) = omega arith
place_count_lem p n (word c r) = omega arith

module _ (q : ℕ) where
  width_count : (p n : ℕ) (w : Width) → n ≡ n + stars_in (count_of q p w)
  width_count p n implied = omega arith
  width_count p n (fixed d ds) = omega arith
  width_count p n (by_argument d ds) = omega arith
  width_count p n (by_name c r) = omega arith

  precision_count : (p n : ℕ) (x : Precision) → past_precision n x ≡ n + stars_in (precision_of q p n x)
  precision_count p n undotted = omega arith
  precision_count p n star = refl
  precision_count p n (dot w) = width_count (p + 1) n w

  spec_count : (p n : ℕ) (x : SpecText) → past_spec n x ≡ n + stars_in (spec_at q p n x).precision
  unfolding format_at
  spec_count p n (format_spec f) = precision_count _ n f.precision
  spec_count p n unmodified = omega arith
  spec_count p n (modifier c r) = omega arith
  spec_count p n (free_text r) = omega arith

  tail_count : (p n : ℕ) (x : Tail) → past_tail n x ≡ n + stars_in (after_place q p n x).precision
  tail_count p n bare = omega arith
  tail_count p n (colon s w) = spec_count p n s

  pub past_count : (p n : ℕ) (es : List Element) → past_all n es ≡ n + number_of_both (pieces_of q p n es)
  unfolding number_of_both pieces_of argument_at
  past_count p n [] = omega arith
  past_count p n (run c r ∷ es) = past_count (end_of p (run c r)) n es
  past_count p n (opened r ∷ es) = past_count (end_of p (opened r)) n es
  past_count p n (closed r ∷ es) = past_count (end_of p (closed r)) n es
  past_count p n (placeholder a ∷ es) =
      let i = past_count (end_of p (placeholder a)) (past n (placeholder a)) es in
      let j = tail_count (tail_at p a) n a.tail in
      let k = place_count_lem (p + 1) (past_tail n a.tail) a.position in
      omega (arith, i, j, k)

-- A DOUBLED BRACE at the start, as the first element says it
abbrev pub Says : Bool → List Element → Type 0
Says b [] = Unit {0}
Says b (run c r ∷ es) = b ≡ false
Says b (opened r ∷ es) = b ≡ true
Says b (closed r ∷ es) = b ≡ true
Says b (placeholder a ∷ es) = Unit {0}

no_brace : (x : ℕ) (u : List ℕ) → (x ≡ 0x7B → ⊥) → (x ≡ 0x7D → ⊥) → is_doubled (x ∷ u) ≡ false
unfolding is_doubled
no_brace x [] h k = refl
no_brace x (y ∷ u) h k = rw (ne_eqb x 0x7B h, ne_eqb x 0x7D k) (both_false (eqb x y))

plain_first : (c : ℕ) (s : List ℕ) → Plain c → is_doubled (encode c ++ s) ≡ false
unfolding encode
plain_first c s h =
    let P : List ℕ → Type 0 = λ l. is_doubled (l ++ s) ≡ false in
    pick_elim P (ltb c 0x80) (λ _. no_brace c s (λ e. h (inl e)) (λ e. h (inr e)))
    (λ _. pick_elim P (ltb c 0x800) (λ _. no_brace _ _ (λ e. omega arith) (λ e. omega arith))
    (λ _. pick_elim P (ltb c 0x10000) (λ _. no_brace _ _ (λ e. omega arith) (λ e. omega arith)) (λ _. no_brace _ _ (λ e. omega arith) (λ e. omega arith))))

pub says : (m : Mode) (u : List ℕ) (fs : List Element) → Reading m u fs → Says (is_doubled u) fs
unfolding is_doubled utf8 encode pick
says m u [] r = tt
says m u (run c s ∷ fs) r = rw (← r.spelled) (plain_first c _ r.fits.0.0)
says m u (opened s ∷ fs) r = rw (← r.spelled)
says m u (closed s ∷ fs) r = rw (← r.spelled)
says m u (placeholder a ∷ fs) r = tt

-- PIECES MET
module _ (q : ℕ) where
  run_end_lem : (p : ℕ) (r s : List ℕ) → p + size ((r ++ s) ++ []) ≡ p + size (r ++ []) + size (s ++ [])
  unfolding size
  run_end_lem p r s = omega (arith, size_append (r ++ s) [], size_append r s, size_append r [], size_append s [])

  met_pieces : (b : Bool) (p n : ℕ) (e : Element) (fs : List Element) → Says b fs →
      pieces_of q p n (met e fs) ≡ meeting b (piece_at q p n e) (pieces_of q (end_of p e) (past n e) fs)
  unfolding pieces_of pick
  met_pieces b p n e [] h = refl
  met_pieces b p n (run c r) (run d s ∷ fs) h = rw (h, run_end_lem p (c ∷ r) (d ∷ s))
  met_pieces b p n (opened r) (run d s ∷ fs) h = rw (h, run_end_lem p (0x7B ∷ 0x7B ∷ r) (d ∷ s))
  met_pieces b p n (closed r) (run d s ∷ fs) h = rw (h, run_end_lem p (0x7D ∷ 0x7D ∷ r) (d ∷ s))
  met_pieces b p n (placeholder a) (run d s ∷ fs) h = refl
  met_pieces b p n (run c r) (opened s ∷ fs) h = rw h
  met_pieces b p n (opened r) (opened s ∷ fs) h = rw h
  met_pieces b p n (closed r) (opened s ∷ fs) h = rw h
  met_pieces b p n (placeholder a) (opened s ∷ fs) h = refl
  met_pieces b p n (run c r) (closed s ∷ fs) h = rw h
  met_pieces b p n (opened r) (closed s ∷ fs) h = rw h
  met_pieces b p n (closed r) (closed s ∷ fs) h = rw h
  met_pieces b p n (placeholder a) (closed s ∷ fs) h = refl
  met_pieces b p n (run c r) (placeholder a ∷ fs) h = refl
  met_pieces b p n (opened r) (placeholder a ∷ fs) h = refl
  met_pieces b p n (closed r) (placeholder a ∷ fs) h = refl
  met_pieces b p n (placeholder a) (placeholder g ∷ fs) h = refl

  pub joined_pieces : (b : Bool) (p n : ℕ) (es fs : List Element) → Says b fs →
      pieces_of q p n (joined es fs) ≡ meet b (pieces_of q p n es) (pieces_of q (end_all p es) (past_all n es) fs)
  unfolding pieces_of meet
  joined_pieces b p n [] fs h = refl
  joined_pieces b p n (e ∷ []) fs h = met_pieces b p n e fs h
  joined_pieces b p n (e ∷ g ∷ es) fs h = ap (λ l. piece_at q p n e ∷ l) (joined_pieces b (end_of p e) (past n e) (g ∷ es) fs h)
