-- The steps from a state, where the step there is at hand: it, and those that follow where reading goes on. Rests on StepLaws.
use Prim.Native.Nat.{ℕ, zero, suc, ◌+◌, ◌-◌, ◌*◌, ◌≤◌, ◌<◌}
use Rattle.std.specs.Prelude.{◌≡◌, List, [], ◌∷◌, length, Some, None}
use Rattle.std.proofs.Common.{◌∙◌}
use native.Mathlib.Omega.{arith}
use Rattle.frame.specs.declared.Frame.{Frame}
use Rattle.frame.specs.declared.Mode.{Mode}
use Rattle.reading.specs.Steps.{step_at, onward, follow, steps_from, start}
use Rattle.laws.specs.StepLaws as laws
use Rattle.reading.specs.declared.State.{State}
use Rattle.reading.specs.declared.Step.{Step}

-- WHAT A RUN'S STATE KEEPS, with so many steps left: there are few of them, and the next argument's number moves by four at most in each
pub record Kept (left : ℕ) (s : State) : Type 0 where
  pub next : s.next + 4 * left ≤ 0x40000
  pub few : left ≤ 0x10000

-- at the start of a text within the limit
pub kept_start : (t : List ℕ) → length t ≤ 65535 → Kept (length t + 1) start
kept_start t h = record { next = omega (arith, h); few = omega (arith, h) }

module _ (t : List ℕ) (f : Frame) (m : Mode) (s : State) {x : Step} (e : x ≡ step_at t f m s) where
  -- the next argument's number moves by four at most
  pub step_next : {a : State} → onward s x ≡ Some a → a.next ≤ s.next + 4
  step_next g = laws.step_next t f m s (rw e at g)

  -- so a state keeps what it keeps
  pub kept_on : (k : ℕ) {a : State} → 0 < k → onward s x ≡ Some a → Kept k s → Kept (k - 1) a
  kept_on k h g kept = record { next = omega (arith, h, kept.next, step_next g); few = omega (arith, kept.few) }

  -- the step, and what follows it
  pub steps_some : (k : ℕ) → 0 < k → steps_from k t f m s ≡ x ∷ follow (steps_from (k - 1) t f m) (onward s x)
  unfolding steps_from
  steps_some zero h = absurd (omega arith)
  steps_some (suc k) h = let q : suc k - 1 ≡ k = omega arith in rw (← e, q)

  -- where reading goes on, those from there
  pub steps_on : (k : ℕ) {a : State} → 0 < k → onward s x ≡ Some a → steps_from k t f m s ≡ x ∷ steps_from (k - 1) t f m a
  steps_on k h g = steps_some k h ∙ rw g

  -- where it does not, nothing
  pub steps_over : (k : ℕ) → 0 < k → onward s x ≡ None → steps_from k t f m s ≡ x ∷ []
  steps_over k h g = steps_some k h ∙ rw g
