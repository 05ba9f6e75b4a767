-- WHAT A RUN'S STATE KEEPS: the state after any number of steps; a figure that each step keeps true is, there, the figure worked out over the
-- steps so far; and so it is with the number of arguments. Rests on Steps, StepLaws and WantLaws.
use Prim.Native.Nat.{ℕ, zero, suc, ◌+◌, ◌-◌, ◌≤◌, ◌<◌}
use Rattle.std.specs.Prelude.{◌≡◌, List, [], ◌∷◌, length, Option, Some, None}
use Rattle.std.proofs.Math.Path.{refl, sym, ap}
use Rattle.std.proofs.Common.{◌∙◌}
use native.Mathlib.Omega.{arith}
use Rattle.frame.specs.declared.Frame.{Frame}
use Rattle.frame.specs.declared.Mode.{Mode}
use Rattle.reading.specs.Lists.{gather, pieces_of, pieces}
use Rattle.reading.specs.Steps.{step_at, onward, follow, steps_from, start, reading}
use Rattle.reading.specs.Wants.{larger, argument_wants, wants}
use Rattle.reading.specs.declared.State.{State}
use Rattle.reading.specs.declared.Step.{Step}
use Rattle.laws.specs.WantLaws.{larger_none, larger_first, larger_assoc, wants_append}

-- where reading stands next; where it is over, where it stood
abbrev pub standing : (State → State) → State → Option State → State
standing more s None = s
standing more s (Some s') = more s'

-- THE STATE AFTER STEPS from a state, at most k of them
unfoldable pub last_state : ℕ → List ℕ → Frame → Mode → State → State
last_state zero t f m s = s
last_state (suc k) t f m s = standing (last_state k t f m) s (onward s (step_at t f m s))

module _ (t : List ℕ) (f : Frame) (m : Mode) (s : State) {x : Step} (e : x ≡ step_at t f m s) where
  -- where reading goes on, it is the state after the steps from there
  pub last_on : (k : ℕ) {a : State} → 0 < k → onward s x ≡ Some a → last_state k t f m s ≡ last_state (k - 1) t f m a
  unfolding last_state
  last_on zero h g = absurd (omega arith)
  last_on (suc k) h g = let q : suc k - 1 ≡ k = omega arith in rw (← e, g, q)

  -- where it is over, it is the state there
  pub last_over : (k : ℕ) → onward s x ≡ None → last_state k t f m s ≡ s
  unfolding last_state
  last_over zero g = refl
  last_over (suc k) g = rw (← e, g)

-- with no step left, too
pub last_none : (t : List ℕ) (f : Frame) (m : Mode) (s : State) (k : ℕ) → k ≤ 0 → last_state k t f m s ≡ s
unfolding last_state
last_none t f m s zero h = refl
last_none t f m s (suc k) h = absurd (omega arith)

module _ {A : Type 0} (kept : State → A) (add : A → Step → A) where
  -- a figure worked out over steps, the first of them first
  unfoldable pub over : A → List Step → A
  over a [] = a
  over a (x ∷ xs) = over (add a x) xs

  -- a state keeps it true: after a step it is what the step adds to it, and the last step adds nothing
  abbrev pub Keeps : State → Step → Option State → Type 0
  Keeps s x None = add (kept s) x ≡ kept s
  Keeps s x (Some s') = kept s' ≡ add (kept s) x

  -- ANY FIGURE THAT IS KEPT: after any number of steps it is the one worked out over them
  pub kept_last : ((s : State) (x : Step) → Keeps s x (onward s x)) → (k : ℕ) (t : List ℕ) (f : Frame) (m : Mode) (s : State) →
      kept (last_state k t f m s) ≡ over (kept s) (steps_from k t f m s)
  unfolding last_state steps_from over
  kept_last keeps zero t f m s = refl
  kept_last keeps (suc k) t f m s =
      go (onward s (step_at t f m s)) (keeps s (step_at t f m s)) (λ s'. kept_last keeps k t f m s')
    where
      go : (o : Option State) → Keeps s (step_at t f m s) o →
          ((s' : State) → kept (last_state k t f m s') ≡ over (kept s') (steps_from k t f m s')) →
          kept (standing (last_state k t f m) s o) ≡ over (add (kept s) (step_at t f m s)) (follow (steps_from k t f m) o)
      go None e rest = sym e
      go (Some s') e rest = rest s' ∙ ap (λ (a : A). over a (steps_from k t f m s')) e

-- a step adds what its piece wants
abbrev add_wants : ℕ → Step → ℕ
add_wants a x = larger a (wants (pieces_of x))

wants_kept : (s : State) (x : Step) → Keeps (λ (s : State). s.arguments) add_wants s x (onward s x)
unfolding wants
wants_kept s Step.End = larger_none s.arguments
wants_kept s (Step.Stop p) = larger_none s.arguments
wants_kept s (Step.Literal r) = sym (ap (larger s.arguments) (larger_none 0) ∙ larger_none s.arguments)
wants_kept s (Step.Placeholder p) = sym (ap (larger s.arguments) (larger_none (argument_wants p.argument)))

-- over steps it is what all their pieces want
over_wants : (a : ℕ) (xs : List Step) → over (λ (s : State). s.arguments) add_wants a xs ≡ larger a (wants (gather pieces_of xs))
unfolding over gather wants
over_wants a [] = sym (larger_none a)
over_wants a (x ∷ xs) =
    rw (over_wants (add_wants a x) xs, wants_append (pieces_of x) (gather pieces_of xs), larger_assoc a (wants (pieces_of x)) (wants (gather pieces_of xs)))

-- THE NUMBER OF ARGUMENTS, AT ANY POINT: after any number of steps the state keeps the figure of the pieces so far (R5.19)
pub arguments_kept : (k : ℕ) (t : List ℕ) (f : Frame) (m : Mode) → (last_state k t f m start).arguments ≡ wants (gather pieces_of (steps_from k t f m start))
arguments_kept k t f m =
    kept_last (λ (s : State). s.arguments) add_wants wants_kept k t f m start ∙ over_wants 0 (steps_from k t f m start) ∙ larger_first (wants (gather pieces_of (steps_from k t f m start)))

-- so the last state of a reading keeps that of all its pieces
pub arguments_all : (t : List ℕ) (f : Frame) (m : Mode) → (last_state (length t + 1) t f m start).arguments ≡ wants (pieces t f m)
unfolding pieces reading
arguments_all t f m = arguments_kept (length t + 1) t f m
