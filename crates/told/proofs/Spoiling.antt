-- Numbers written over: what is laid leaves no more than itself, and so do parts one after another. Rests on Told and words' Laid.
use Prim.Native.Nat.{ℕ, ◌+◌, ◌-◌, ◌≤◌}
use mathlib.Core.Path.{◌≡◌, sym, ap, ◌∙◌}
use mathlib.Core.List.{List, ◌++◌, append_assoc}
use native.Mathlib.Omega.{arith}
use lib.ListN.{length, take, drop, length-append}
use lib.Seq.{length-take-le, take-append-le, take-take, drop_at, drop-drop}
use Rattle.words.specs.Laid.{laid}
use Rattle.told.specs.Told.{Spoilt, Put}

module _ (old : List ℕ) (k : ℕ) (xs : List ℕ) (room : k + length xs ≤ length old) where
  -- before what is laid the list stays
  laid_take : (j : ℕ) → j ≤ k → take j (laid old k xs) ≡ take j old
  unfolding laid
  laid_take j h =
      let n = length-take-le k old (omega arith) in
      take-append-le j (take k old) (xs ++ drop (k + length xs) old) (omega (arith, n)) ∙ take-take j k old h

  -- and after it
  laid_drop : (j : ℕ) → k + length xs ≤ j → drop j (laid old k xs) ≡ drop j old
  unfolding laid
  laid_drop j h =
      let m = k + length xs in
      let front = take k old ++ xs in
      let n : length front ≡ m = omega (arith, length-append (take k old) xs, length-take-le k old (omega arith)) in
      let e : j ≡ m + (j - m) = omega arith in
      let here : drop m (take k old ++ (xs ++ drop m old)) ≡ drop m old =
      ap (drop m) (sym (append_assoc (take k old) xs (drop m old))) ∙ drop_at front (drop m old) m n
      in
      rw e (sym (drop-drop (j - m) m (take k old ++ (xs ++ drop m old))) ∙ ap (drop (j - m)) here ∙ drop-drop (j - m) m old)

  -- so nothing is left of it under what covers it
  covered : (j : ℕ) (ws : List ℕ) → j ≤ k → k + length xs ≤ j + length ws → laid (laid old k xs) j ws ≡ laid old j ws
  unfolding laid
  covered j ws a b =
      ap (λ (l : List ℕ). l ++ (ws ++ drop (j + length ws) (laid old k xs))) (laid_take j a)
      ∙ ap (λ (l : List ℕ). take j old ++ (ws ++ l)) (laid_drop (j + length ws) b)

  -- WHAT IS LAID
  pub spoilt_laid : {new : List ℕ} → new ≡ laid old k xs → {n : ℕ} → length xs ≡ n → Spoilt k n old new
  spoilt_laid w c = record { gone = λ j ws a b _. rw w (covered j ws a (omega (arith, b, c))) }

  -- told
  pub put_laid : {new : List ℕ} → new ≡ laid old k xs → {n : ℕ} → length xs ≡ n → {told : Type 0} → Put told k n xs old new
  put_laid w c = record { wrote = λ _. w; spoilt = spoilt_laid w c }

-- PARTS: more is spoilt than a part, and one part after another
module _ {k n k₁ n₁ : ℕ} {old mid : List ℕ} (s : Spoilt k₁ n₁ old mid) (a : k ≤ k₁) (b : k₁ + n₁ ≤ k + n) where
  pub spoilt_wide : Spoilt k n old mid
  spoilt_wide = record { gone = λ j ws p q r. s.gone j ws (omega (arith, a, p)) (omega (arith, b, q)) r }

  pub spoilt_then : {k₂ n₂ : ℕ} {new : List ℕ} → Spoilt k₂ n₂ mid new → k ≤ k₂ → k₂ + n₂ ≤ k + n → length mid ≡ length old → Spoilt k n old new
  spoilt_then z c d same =
      record {
        gone =
            λ j ws p q r.
            z.gone j ws (omega (arith, c, p)) (omega (arith, d, q)) (omega (arith, same, r)) ∙ s.gone j ws (omega (arith, a, p)) (omega (arith, b, q)) r;
      }
