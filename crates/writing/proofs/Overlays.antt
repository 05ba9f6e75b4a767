-- Numbers laid over a list: none, before others, over the first, over others that are as long; and the numbers of many records.
-- Rests on words' Laid and reading's Written.
use Prim.Native.Nat.{ℕ, ◌+◌, ◌-◌, ◌*◌, ◌≤◌}
use mathlib.Core.Path.{◌≡◌, sym, ap, ◌∙◌}
use mathlib.Core.List.{List, [], ◌∷◌, ◌++◌, append_assoc}
use native.Mathlib.Nat.{add-zero, zero-add}
use native.Mathlib.Omega.{arith}
use lib.ListN.{length, take, drop, take-append-drop, length-append}
use lib.Seq.{length-take-le, take-append-le, take-take, drop_at, drop-append-add, drop-drop}
use Rattle.reading.specs.Lists.{gather}
use Rattle.reading.specs.Written.{over}
use Rattle.words.specs.Laid.{laid}

module _ {A : Type 0} (l : List A) where
  -- with nothing laid the list stays
  pub laid_none : (k : ℕ) → laid l k [] ≡ l
  unfolding laid
  laid_none k = rw add-zero (take-append-drop k l)

  -- what is laid right before others is laid with them
  pub laid_before : (k : ℕ) (a b : List A) → k + length a + length b ≤ length l → laid (laid l (k + length a) b) k a ≡ laid l k (a ++ b)
  unfolding laid
  laid_before k a b h =
      let j = k + length a in
      let head = take j l in
      let rest = b ++ drop (j + length b) l in
      let n : length head ≡ j = length-take-le j l (omega arith) in
      let p : take k (head ++ rest) ≡ take k l = take-append-le k head rest (omega arith) ∙ take-take k j l (omega arith) in
      let q : drop j (head ++ rest) ≡ rest = drop_at head rest j n in
      let e : k + length (a ++ b) ≡ j + length b = omega (arith, length-append a b) in
      rw (p, q, e, append_assoc)

  -- over the first
  pub laid_first : (xs : List A) → laid l 0 xs ≡ over xs l
  unfolding laid over
  laid_first xs = rw zero-add

  -- over others that are no more, nothing of them is left
  pub over_again : (xs ys : List A) → length xs ≤ length ys → over ys (over xs l) ≡ over ys l
  unfolding over
  over_again xs ys h =
      let d = length ys - length xs in
      let e : length ys ≡ length xs + d = omega arith in
      ap (λ (r : List A). ys ++ r)
      (ap (λ (n : ℕ). drop n (xs ++ drop (length xs) l)) e
      ∙ drop-append-add xs (drop (length xs) l) d
      ∙ drop-drop d (length xs) l
      ∙ ap (λ (n : ℕ). drop n l) (sym e))

-- records of as many numbers each
pub gather_length : {A B : Type 0} (g : A → List B) (n : ℕ) → ((x : A) → length (g x) ≡ n) → (xs : List A) → length (gather g xs) ≡ n * length xs
unfolding gather
gather_length g n each [] = omega arith
gather_length g n each (x ∷ xs) =
    omega (arith, length-append (g x) (gather g xs), each x, gather_length g n each xs)
