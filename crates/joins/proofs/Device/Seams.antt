-- A text that has a reading and is not empty ends in `:}` where it does so after another. Rests on unique's case that `}` has none.
use Rattle.std.specs.Prelude.{◌≡◌, refl, ◌≢◌, List, [], ◌∷◌, ◌++◌, ℕ, ◌≤◌, length}
use Rattle.std.proofs.Common.{ap, subst, inl, inr, ⊎_elim, arith, length-append}
use Rattle.frame.specs.declared.Mode.{Mode}
use Rattle.grammar.specs.Grammar.{Element, Reading}
use Rattle.unique.specs.Examples.{no_readings}
use Rattle.joins.specs.Joins.{EndsInColon, Premise}

tail : {c d : ℕ} {r s : List ℕ} → c ∷ r ≡ d ∷ s → r ≡ s
tail e = cc

-- two bytes at the end are the second text's, where it has two,
ends_in : (t u w : List ℕ) (a b : ℕ) → 2 ≤ length u → t ++ u ≡ w ++ (a ∷ b ∷ []) → (v : List ℕ) × (u ≡ v ++ (a ∷ b ∷ []))
ends_in [] u w a b l e = (w, e)
ends_in (c ∷ t) u [] a b l e = absurd (omega (arith, ap length e, length-append t u))
ends_in (c ∷ t) u (d ∷ w) a b l e = ends_in t u w a b l (tail e)

-- and the last is its own, where it has one
last_is : (t w : List ℕ) (x a b : ℕ) → t ++ (x ∷ []) ≡ w ++ (a ∷ b ∷ []) → x ≡ b
last_is [] [] x a b e = absurd (omega (arith, ap length e))
last_is [] (d ∷ w) x a b e = absurd (omega (arith, ap length e, length-append w (a ∷ b ∷ [])))
last_is (c ∷ []) [] x a b e = cc
last_is (c ∷ d ∷ t) [] x a b e = absurd (omega (arith, ap length e, length-append t (x ∷ [])))
last_is (c ∷ t) (d ∷ w) x a b e = last_is t w x a b (tail e)

ends_after : (t u : List ℕ) (es : List Element) → Reading Mode.Format u es → u ≢ [] → EndsInColon (t ++ u) → EndsInColon u
ends_after t [] es r n k = absurd (n refl)
ends_after t (x ∷ []) es r n k = absurd (no_readings.0 es (subst (λ c. Reading Mode.Format (c ∷ []) es) (last_is t k.0 x 0x3A 0x7D k.1) r))
ends_after t (x ∷ y ∷ u) es r n k = ends_in t (x ∷ y ∷ u) k.0 0x3A 0x7D (omega arith) k.1

pub seam : (m : Mode) (t u v : List ℕ) (es : List Element) → Reading m u es → u ≢ [] → Premise m u v → Premise m (t ++ u) v
seam Mode.Format t u v es r n p = ⊎_elim (λ o. inl (λ k. o (ends_after t u es r n k))) (λ o. inr o) p
seam Mode.InlineAsm t u v es r n p = tt
seam Mode.Diagnostic t u v es r n p = tt
