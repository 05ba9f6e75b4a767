-- Laws of `same`: a list in parts, which a raw literal is. Rests on FrameLaws.
use Prim.Native.Nat.{ℕ, ◌<◌}
use mathlib.Core.Path.{◌≡◌, refl, sym, ap, ◌∙◌}
use mathlib.Core.Bool.{Bool, true, false}
use mathlib.Core.List.{List, [], ◌∷◌, ◌++◌}
use native.Mathlib.Omega.{arith}
use native.Mathlib.Nat.{not-suc-le-zero}
use lib.Dec.{eqb}
use lib.ListN.{length, get_or, take, drop}
use Rattle.utf8.specs.Choice.{both}
use Rattle.utf8.specs.ChoiceLaws.{not_so, both_right}
use Rattle.frame.specs.Frames.{same}
use Rattle.frame.specs.FrameLaws.{same_equal, same_exactly}

-- lists of two lengths are not the same
pub lengths_differ : (a b : List ℕ) → (length a ≡ length b → ⊥) → same a b ≡ false
lengths_differ a b apart = not_so (same a b) (λ e. apart (ap length (same_equal a b e)))

-- a list is the same as itself
pub same_self : (a : List ℕ) → same a a ≡ true
same_self a = (same_exactly a a).1 refl

-- a first byte, and the rest
pub same_cons : (s : List ℕ) (x : ℕ) (q : List ℕ) → 0 < length s → same s (x ∷ q) ≡ both (eqb (get_or s 0 0) x) (same (drop 1 s) q)
unfolding same
same_cons [] x q p = absurd (not-suc-le-zero p)
same_cons (y ∷ s) x q p = refl

-- the tests of the two parts, one after the other
both_assoc : (p q r : Bool) → both p (both q r) ≡ both (both p q) r
both_assoc true q r = refl
both_assoc false q r = refl

-- a first part, and the rest
pub same_append : (s p q : List ℕ) → same s (p ++ q) ≡ both (same (take (length p) s) p) (same (drop (length p) s) q)
unfolding same
same_append s [] q = refl
same_append [] (x ∷ p) q = refl
same_append (y ∷ s) (x ∷ p) q = rw (same_append s p q) (both_assoc (eqb y x) _ _)

-- two parts before two others, where the first are as long
pub same_appended : (p q x y : List ℕ) → length p ≡ length q → same (p ++ x) (q ++ y) ≡ both (same p q) (same x y)
unfolding same
same_appended [] [] x y e = refl
same_appended [] (b ∷ q) x y e = absurd (omega (arith, e))
same_appended (a ∷ p) [] x y e = absurd (omega (arith, e))
same_appended (a ∷ p) (b ∷ q) x y e = rw (same_appended p q x y (omega (arith, e))) (both_assoc (eqb a b) _ _)

-- and where the whole is equal, so are the others
pub append_same : (p q x y : List ℕ) → length p ≡ length q → p ++ x ≡ q ++ y → x ≡ y
append_same p q x y e w = same_equal x y (both_right (same p q) _ (sym (same_appended p q x y e) ∙ (same_exactly _ _).1 w))
