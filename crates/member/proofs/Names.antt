-- A name and a word, byte by byte. Rests on the frame's laws of `same`.
use Prim.Native.Nat.{ℕ, suc}
use mathlib.Core.Path.{◌≡◌, refl, ap, sym, ◌∙◌}
use mathlib.Core.Bool.{Bool, true, false}
use mathlib.Core.List.{List, [], ◌∷◌}
use native.Mathlib.Omega.{arith}
use lib.Dec.{eqb}
use lib.ListN.{length, get_or}
use Rattle.utf8.specs.Choice.{both}
use Rattle.utf8.specs.ChoiceLaws.{not_so}
use Rattle.frame.specs.Frames.{same}
use Rattle.frame.specs.FrameLaws.{same_equal}

-- lists of two lengths are not the same
pub lengths_differ : (a b : List ℕ) → (length a ≡ length b → ⊥) → same a b ≡ false
lengths_differ a b apart = not_so (same a b) (λ e. apart (ap length (same_equal a b e)))

-- a second test that holds says nothing
pub both_true : (a : Bool) → both a true ≡ a
both_true true = refl
both_true false = refl

-- the bytes of a list from i on are these
abbrev pub bytes_at : List ℕ → ℕ → List ℕ → Bool
bytes_at a i [] = true
bytes_at a i (y ∷ ys) = both (eqb (get_or a i 0) y) (bytes_at a (suc i) ys)

-- one byte before them moves them
moved : (x : ℕ) (a : List ℕ) (i : ℕ) (b : List ℕ) → bytes_at (x ∷ a) (suc i) b ≡ bytes_at a i b
moved x a i [] = refl
moved x a i (y ∷ ys) = ap (both (eqb (get_or a i 0) y)) (moved x a (suc i) ys)

-- lists of one length are the same where their bytes are
pub same_by : (a b : List ℕ) → length a ≡ length b → same a b ≡ bytes_at a 0 b
unfolding same
same_by [] [] h = refl
same_by [] (y ∷ ys) h = absurd (omega (arith, h))
same_by (x ∷ xs) [] h = absurd (omega (arith, h))
same_by (x ∷ xs) (y ∷ ys) h = ap (both (eqb x y)) (same_by xs ys (omega (arith, h)) ∙ sym (moved x xs 0 ys))
