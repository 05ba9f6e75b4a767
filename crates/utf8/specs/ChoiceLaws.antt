-- Laws of the choices: what holds of both sides holds of the choice, and what a test that holds says. Rests on Choice.
use Rattle.std.specs.Prelude.{ℕ, ◌≤◌, ◌≡◌, refl, Bool, true, false, leb}
use Rattle.std.proofs.Common.{sym, true≢false, leb-true, le-leb}
use Rattle.utf8.specs.Choice.{pick, both, either, within}

-- what holds of a where the test holds, and of b where it does not, holds of the choice
pub pick_elim : {A : Type 0} (P : A → Type 0) (t : Bool) {a b : A} → (t ≡ true → P a) → (t ≡ false → P b) → P (pick t a b)
unfolding pick
pick_elim P true f g = f refl
pick_elim P false f g = g refl

-- a test that cannot hold does not
pub not_so : (t : Bool) → (t ≡ true → ⊥) → t ≡ false
not_so true n = absurd (n refl)
not_so false n = refl

-- where both tests hold, each does
pub both_left : (a b : Bool) → both a b ≡ true → a ≡ true
both_left true b t = refl
both_left false b t = t

pub both_right : (a b : Bool) → both a b ≡ true → b ≡ true
both_right true b t = t
both_right false b t = absurd (true≢false (sym t))

-- where one does not, not both do
pub both_false : (a : Bool) → both a false ≡ false
both_false true = refl
both_false false = refl

-- the second test is enough
pub either_true : (a : Bool) → either a true ≡ true
either_true true = refl
either_true false = refl

-- a second test that fails says nothing
pub either_false : (a : Bool) → either a false ≡ a
either_false true = refl
either_false false = refl

-- a number within a range is between its ends
pub within_low : {x : ℕ} (lo hi : ℕ) → within x lo hi ≡ true → lo ≤ x
unfolding within
within_low {x} lo hi t = leb-true lo x (both_left _ _ t)

pub within_high : {x : ℕ} (lo hi : ℕ) → within x lo hi ≡ true → x ≤ hi
unfolding within
within_high {x} lo hi t = leb-true x hi (both_right (leb lo x) _ t)

-- a number between the ends is within the range
pub in_within : {x lo hi : ℕ} → lo ≤ x → x ≤ hi → within x lo hi ≡ true
unfolding within
in_within {x} {lo} {hi} l u = simp (le-leb lo x l, le-leb x hi u)
