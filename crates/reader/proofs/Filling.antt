-- A list filled from the front, of any type of element: `over es ys` has the records es first and then what ys has after as many.
-- A record added at the back or put in front keeps that form. Facts about lists alone.
use mathlib.Core.Path.{◌≡◌, refl, sym, ap, ◌∙◌}
use mathlib.Core.Bool.{Bool, true, false}
use mathlib.Core.List.{List, [], ◌∷◌, ◌++◌}
use Prim.Native.Nat.{ℕ, suc, ◌+◌, ◌<◌, ◌≤◌}
use native.Mathlib.Numerals.{add-one}
use native.Mathlib.Omega.{arith}
use lib.ListN.{length, drop, set, get_or, length-append, length-drop}
use lib.Seq.{drop-cons, drop-drop, drop-append-add, take-append_seam, set-append_seam, append_snoc}
use Rattle.utf8.specs.Choice.{pick}
use Rattle.reading.specs.Written.{over}
use Rattle.reader.specs.Lent.{in_front, put}

module _ {A : Type 0} where
  -- records with one more, in front or at the back
  abbrev pub with_one : Bool → List A → A → List A
  with_one front es e = pick front (e ∷ es) (es ++ (e ∷ []))

  pub put_front : (es : List A) (n : ℕ) (e : A) {front : Bool} → front ≡ true → put front es n e ≡ in_front es n e
  unfolding put pick
  put_front es n e is = ap (λ (t : Bool). put t es n e) is

  pub put_back : (es : List A) (n : ℕ) (e : A) {front : Bool} → front ≡ false → put front es n e ≡ set es n e
  unfolding put pick
  put_back es n e is = ap (λ (t : Bool). put t es n e) is

  pub over_none : (ys : List A) → over [] ys ≡ ys
  unfolding over
  over_none ys = refl

  -- records that number 0 leave a list as it was
  pub over_empty : (es ys : List A) → length es ≡ 0 → ys ≡ over es ys
  over_empty [] ys e = sym (over_none ys)
  over_empty (x ∷ es) ys e = absurd (omega (arith, e))

  module _ (es ys : List A) where
    pub over_length : length es ≤ length ys → length (over es ys) ≡ length ys
    unfolding over
    over_length h = omega (arith, length-append es (drop (length es) ys), length-drop (length es) ys)

    module _ (e : A) where
      pub over_back : length es < length ys → set (over es ys) (length es) e ≡ over (es ++ (e ∷ [])) ys
      unfolding over
      over_back h =
          ap (λ (l : List A). set (es ++ l) (length es) e) (drop-cons ys (length es) e h) ∙ set-append_seam es (get_or ys (length es) e) (drop (suc (length es)) ys) e ∙
          sym (append_snoc es e (drop (suc (length es)) ys)) ∙ ap (λ (k : ℕ). (es ++ (e ∷ [])) ++ drop k ys) (sym (add-one (length es)) ∙ sym (length-append es (e ∷ [])))

      over_front : in_front (over es ys) (length es) e ≡ over (e ∷ es) ys
      unfolding over in_front
      over_front =
          ap (λ (l : List A). e ∷ (l ++ drop (length es + 1) (es ++ drop (length es) ys))) (take-append_seam es (drop (length es) ys)) ∙
          ap (λ (l : List A). e ∷ (es ++ l)) (drop-append-add es (drop (length es) ys) 1 ∙ drop-drop 1 (length es) ys ∙ ap (λ (k : ℕ). drop k ys) (add-one (length es)))

      -- a record put at the front or at the back of the records
      pub over_put : (front : Bool) → length es < length ys → put front (over es ys) (length es) e ≡ over (with_one front es e) ys
      unfolding put pick
      over_put true h = over_front
      over_put false h = over_back h
