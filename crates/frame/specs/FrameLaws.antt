-- Laws of the frame for its callers: `same` is equality, what a source literal is, and a frame of a small text is small.
-- Rests on Frames and Spans.
use Rattle.std.specs.Prelude.{ℕ, ◌≤◌, ◌≡◌, refl, Bool, true, false, List, [], ◌∷◌, ◌↔◌, length, eqb, Option, Some, None}
use Rattle.std.proofs.Common.{subst, arith, eqb-true, eq-eqb}
use Rattle.utf8.specs.ChoiceLaws.{both_left, both_right}
use Rattle.frame.specs.Frames.{hashes_of, body, raw_literal, same, is_literal, frame_of}
use Rattle.frame.specs.Bounds.{Small}

-- what `same` finds equal is equal
pub same_equal : (a b : List ℕ) → same a b ≡ true → a ≡ b
unfolding same
same_equal [] [] e = refl
same_equal [] (y ∷ ys) e = cc
same_equal (x ∷ xs) [] e = cc
same_equal (x ∷ xs) (y ∷ ys) e =
    let head = eqb-true x y (both_left (eqb x y) (same xs ys) e) in
    let tail = same_equal xs ys (both_right (eqb x y) (same xs ys) e) in
    cc

-- `same` finds each list equal to itself
same_self : (a : List ℕ) → same a a ≡ true
unfolding same
same_self [] = refl
same_self (x ∷ xs) = rw (eq-eqb x x refl) (same_self xs)

-- `same` is equality, exactly
pub same_exactly : (a b : List ℕ) → (same a b ≡ true) ↔ (a ≡ b)
same_exactly a b = (same_equal a b, λ e. subst (λ (l : List ℕ). same a l ≡ true) e (same_self a))

-- a raw string's snippet is a source literal when it is the raw literal of the body, exactly
pub literal_exactly : (t s : List ℕ) (h : ℕ) (newline : Bool) →
    (is_literal t (Some h) true s newline ≡ true) ↔ (s ≡ raw_literal h (body t newline))
unfolding is_literal
literal_exactly t s h newline = same_exactly s (raw_literal h (body t newline))

-- without a snippet there is no source literal
pub no_snippet : (t s : List ℕ) (style : Option ℕ) (newline : Bool) → is_literal t style false s newline ≡ false
unfolding is_literal
no_snippet t s None newline = refl
no_snippet t s (Some h) newline = refl

-- a text within the limit has a small frame, whatever the rest: at most 255 hashes
pub frame_small : (t s : List ℕ) (style : Option ℕ) (given newline : Bool) → length t ≤ 65535 → hashes_of style ≤ 255 →
    Small t (frame_of t style given s newline)
unfolding frame_of
frame_small t s None given newline short few = record { text = short; quote = omega arith }
frame_small t s (Some h) given newline short few = record { text = short; quote = omega arith }
