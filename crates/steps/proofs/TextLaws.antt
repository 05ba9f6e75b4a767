-- What a bound of a literal says: it is within the text. Rests on the definition of a bound and on the laws of choice.
use Prim.Native.Nat.{ℕ, ◌≤◌}
use mathlib.Core.Path.{◌≡◌}
use mathlib.Core.Bool.{Bool, true}
use mathlib.Core.List.{List}
use native.Mathlib.Nat.{le_of_lt, le_of_eq}
use borrow.Author.Tests.{ltb-true, leb-true, eqb-true}
use lib.Dec.{ltb, leb}
use lib.ListN.{length}
use Rattle.utf8.specs.Choice.{both}
use Rattle.utf8.specs.ChoiceLaws.{pick_elim, both_left, both_right}
use Rattle.reading.specs.Texts.{is_boundary}

-- a bound is within the text
pub boundary_within : (t : List ℕ) (i : ℕ) → is_boundary t i ≡ true → i ≤ length t
unfolding is_boundary
boundary_within t i h =
    pick_elim (λ (b : Bool). b ≡ true → i ≤ length t) (ltb i (length t))
    (λ e _. le_of_lt (ltb-true i (length t) e))
    (λ _ e. le_of_eq (eqb-true i (length t) e))
    h

module _ (t : List ℕ) (s e : ℕ) (h : both (leb s e) (both (is_boundary t s) (is_boundary t e)) ≡ true) where
  -- a range that passes the test is not reversed
  pub part_ordered : s ≤ e
  part_ordered = leb-true s e (both_left _ _ h)

  -- and does not pass the end
  pub part_within : e ≤ length t
  part_within = boundary_within t e (both_right (is_boundary t s) _ (both_right (leb s e) _ h))
