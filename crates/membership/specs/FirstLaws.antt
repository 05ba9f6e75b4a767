-- Laws of the first piece of a sort and of the second: each is of the sort, and is the least. Rests on Members and Verdicts.
use Rattle.std.proofs.Common.{sym, ◌∙◌, true≢false}
use Rattle.std.specs.Prelude.{Bool}
use Rattle.std.proofs.Math.Bool.{true, false}
use mathlib.Core.List.{List, [], ◌∷◌}
use Prim.Native.Nat.{ℕ, zero, suc, ◌≤◌, ◌<◌}
use native.Mathlib.Omega.{arith}
use Rattle.std.proofs.Math.ListN.{length}
use Rattle.utf8.specs.Choice.{pick}
use Rattle.utf8.specs.ChoiceLaws.{pick_elim}
use Rattle.reading.specs.declared.Piece.{Piece}
use Rattle.membership.specs.Members.{Is}
use Rattle.membership.specs.Verdicts.{first_where, second_where}

module _ (sort : Piece → Bool) where
  -- what is of a sort is one of the pieces
  pub is_within : (xs : List Piece) (i : ℕ) → Is sort xs i → i < length xs
  is_within [] i h = absurd h
  is_within (x ∷ xs) zero h = omega arith
  is_within (x ∷ xs) (suc i) h = omega (arith, is_within xs i h)

  -- the first is one of the pieces, or their number
  pub first_within : (xs : List Piece) → first_where sort xs ≤ length xs
  unfolding first_where
  first_within [] = omega arith
  first_within (x ∷ xs) =
      pick_elim (λ (n : ℕ). n ≤ suc (length xs)) (sort x) (λ _. omega arith) (λ _. omega (arith, first_within xs))

  -- it is of the sort
  pub first_is : (xs : List Piece) → first_where sort xs < length xs → Is sort xs (first_where sort xs)
  unfolding first_where
  first_is [] h = absurd (omega (arith, h))
  first_is (x ∷ xs) h =
      pick_elim (λ (n : ℕ). n < suc (length xs) → Is sort (x ∷ xs) n) (sort x) (λ e _. e) (λ _ l. first_is xs (omega (arith, l))) h

  -- and none before it is
  pub first_least : (xs : List Piece) (i : ℕ) → Is sort xs i → first_where sort xs ≤ i
  unfolding first_where
  first_least [] i h = absurd h
  first_least (x ∷ xs) zero h =
      pick_elim (λ (n : ℕ). n ≤ 0) (sort x) (λ _. omega arith) (λ e. absurd (true≢false (sym h ∙ e)))
  first_least (x ∷ xs) (suc i) h =
      pick_elim (λ (n : ℕ). n ≤ suc i) (sort x) (λ _. omega arith) (λ _. omega (arith, first_least xs i h))

  -- where it is none of the pieces, none is of the sort
  pub first_none : (xs : List Piece) → length xs ≤ first_where sort xs → (i : ℕ) → ¬ Is sort xs i
  first_none xs h i e = absurd (omega (arith, h, first_least xs i e, is_within xs i e))

  -- the second is of the sort, and behind the first
  pub second_is : (xs : List Piece) → second_where sort xs < length xs →
      Is sort xs (second_where sort xs) × (first_where sort xs < second_where sort xs)
  unfolding first_where second_where pick
  second_is [] h = absurd (omega (arith, h))
  second_is (x ∷ xs) h = go (sort x) (second_is xs) h
    where
      go : (b : Bool) → (second_where sort xs < length xs → Is sort xs (second_where sort xs) × (first_where sort xs < second_where sort xs)) →
          suc (pick b (first_where sort xs) (second_where sort xs)) < suc (length xs) →
          Is sort xs (pick b (first_where sort xs) (second_where sort xs)) ×
          (pick b 0 (suc (first_where sort xs)) < suc (pick b (first_where sort xs) (second_where sort xs)))
      go true rest h = (first_is xs (omega (arith, h)), omega arith)
      go false rest h = let r = rest (omega (arith, h)) in (r.0, omega (arith, r.1))

  -- any that is behind another is behind it, or is it
  pub second_least : (xs : List Piece) (i j : ℕ) → j < i → Is sort xs j → Is sort xs i → second_where sort xs ≤ i
  unfolding second_where
  second_least [] i j l a b = absurd a
  second_least (x ∷ xs) zero j l a b = absurd (omega (arith, l))
  second_least (x ∷ xs) (suc i) zero l a b =
      pick_elim (λ (n : ℕ). suc n ≤ suc i) (sort x) (λ _. omega (arith, first_least xs i b)) (λ e. absurd (true≢false (sym a ∙ e)))
  second_least (x ∷ xs) (suc i) (suc j) l a b =
      pick_elim (λ (n : ℕ). suc n ≤ suc i) (sort x) (λ _. omega (arith, first_least xs i b))
      (λ _. omega (arith, second_least xs i j (omega (arith, l)) a b))
