-- Steps that are passed: literal text, and a placeholder that is told without a flaw. Rests on Clear and Stepping.
use Rattle.std.specs.Prelude.{Option, None, Some}
use Prim.Native.Nat.{ℕ, ◌+◌}
use mathlib.Core.Path.{◌≡◌, refl}
use mathlib.Core.List.{List}
use Rattle.frame.specs.Places.{place}
use Rattle.frame.specs.declared.Frame.{Frame}
use Rattle.frame.specs.declared.Mode.{Mode}
use Rattle.frame.specs.declared.TextPlace.{TextPlace}
use Rattle.frame.specs.declared.TextRange.{TextRange}
use Rattle.scan.specs.Characters.{text_end}
use Rattle.reading.specs.Faults.{step_slots, wrong}
use Rattle.reading.specs.Steps.{state_of, step_at}
use Rattle.reading.specs.declared.State.{State}
use Rattle.reading.specs.declared.Step.{Step}
use Rattle.laws.specs.MoveLaws.{given_by}
use Rattle.quick.specs.Tellings.{told_read, Tells}
use Rattle.quick.specs.declared.PlaceholderTold.{PlaceholderTold}
use Rattle.passing.specs.After.{told_state}
use Rattle.passing.specs.Clear.{OpenAt, ClearTold, LiteralFrom, Clear, PassedStep, PassedText, Passes, PassesText}
use Rattle.passing.specs.declared.Passed.{Passed}
use Rattle.passing.proofs.Stepping.{flawless_clean, step_told, told_on}

module _ (t : List ℕ) (f : Frame) (m : Mode) (s : State) where
  -- LITERAL TEXT that is passed is a step that is
  pub text_passes : (r : Option Passed) → PassesText t f m s r → Passes t f m s r
  text_passes None p = tt
  text_passes (Some r) p = p.passes

  module _ {view : TextRange} (step : Step.Literal view ≡ step_at t f m s) where
    pub literal_clear : Clear t f m s (state_of view.end s.next s.arguments)
    unfolding step_slots wrong
    literal_clear = record { clean = rw (← step) refl; goes = rw (← step) refl; one = rw (← step) refl }

    pub literal_given : 0 ≡ given_by (step_at t f m s)
    literal_given = rw (← step) refl

  pub literal_passes : {from : ℕ} {e : TextPlace} → LiteralFrom t f m s from → e ≡ text_end t (place from) →
      PassedText t f m s (record { state = state_of e s.next s.arguments; given = 0 })
  literal_passes l q =
      rw q
      (record {
        passes = record { clear = literal_clear l.step; given = literal_given l.step };
        view = _;
        step = l.step;
      })

  -- A PLACEHOLDER in which nothing is wrong is passed
  module _ (o : OpenAt t s.at.0) {x : PlaceholderTold} (l : Tells t (s.at.0 + 1) x) (c : ClearTold m x) where
    pub open_step_lem : Step.Placeholder (told_read t f s.at.0 s.next x) ≡ step_at t f m s
    open_step_lem = step_told t f m s x o.within o.brace o.alone l c.speaks

    pub open_clear : {a : State} → a ≡ told_state s x → Clear t f m s a
    unfolding told_read
    open_clear q =
        record {
          clean = rw (← open_step_lem) (flawless_clean t f s.at.0 s.next x c.flawless);
          goes = rw (← open_step_lem) (told_on t f s x q);
          one = rw (← open_step_lem) refl;
        }

    pub open_given : x.spec.given ≡ given_by (step_at t f m s)
    unfolding told_read
    open_given = rw (← open_step_lem) refl

    pub open_passes : {a : State} → a ≡ told_state s x → PassedStep t f m s (record { state = a; given = x.spec.given })
    open_passes q = record { clear = open_clear q; given = open_given }
