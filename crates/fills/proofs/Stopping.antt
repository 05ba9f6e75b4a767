-- The step where the lane stopped, written: what is told there, or the plain step. Rests on Lane, Stepping and Passing, and on writing's Stepping.
use Rattle.std.specs.Prelude.{None, Some}
use Prim.Native.Nat.{ℕ, ◌+◌, ◌*◌, ◌≤◌}
use mathlib.Core.Path.{◌≡◌, refl, sym, ◌∙◌}
use mathlib.Core.Bool.{true}
use mathlib.Core.List.{List}
use lib.ListN.{length}
use Rattle.frame.specs.declared.Frame.{Frame}
use Rattle.frame.specs.declared.Mode.{Mode}
use Rattle.reading.specs.Steps.{step_at}
use Rattle.reading.specs.declared.State.{State}
use Rattle.reading.specs.declared.Step.{Step}
use Rattle.quick.specs.Tellings.{told_read}
use Rattle.passing.specs.After.{told_state}
use Rattle.told.specs.Told.{ToldAndPut}
use Rattle.quick.specs.declared.PlaceholderTold.{PlaceholderTold}
use Rattle.writing.specs.StepsWritten.{noted_by, noticed, Room, Notes, one_more, StepRoom, SteppedOn}
use Rattle.writing.specs.declared.Extent.{Extent}
use Rattle.writing.specs.declared.StepWritten.{StepWritten}
use Rattle.writing.proofs.Stepping.{stepped_end, stepped_on}
use Rattle.wrongs.specs.Wrongs.{told_slots}
use Rattle.fills.specs.Lane.{Tried}
use Rattle.passing.specs.Clear.{OpenAt}
use Rattle.passing.proofs.Stepping.{step_end, step_told, told_on}
use Rattle.fills.proofs.Stepping.{told_room, stepped_told}
use Rattle.fills.proofs.Passing.{open_fits}

-- AT THE END of the text nothing is written
pub left_end : (t : List ℕ) (f : Frame) (m : Mode) (s : State) {k : Extent} {ps es : List ℕ} → length t ≤ s.at.0 →
    SteppedOn t f m s k ps es (record { next = None; extent = k; given = 0 }) ps es
left_end t f m s e = stepped_on t f m s (step_end t f m s e) (stepped_end t f) refl refl

-- WHAT WAS TRIED before a step is gone when its piece is written
pub left_over : (t : List ℕ) (f : Frame) (m : Mode) (s : State) {k : Extent} {ps ps₁ es : List ℕ} → Tried t f m s k.pieces ps ps₁ →
    {o : StepWritten} {ps₂ es₂ : List ℕ} → SteppedOn t f m s k ps₁ es o ps₂ es₂ → SteppedOn t f m s k ps es o ps₂ es₂
left_over t f m s w d =
    record {
      stepped = record { pieces = d.stepped.pieces; wrote = d.stepped.wrote ∙ w.left; noted = d.stepped.noted };
      next = d.next;
      given = d.given;
    }

-- A PLACEHOLDER, told or not
module _ (t : List ℕ) (f : Frame) (s : State) (o : OpenAt t s.at.0) {k : Extent} {ps es : List ℕ}
    (r : StepRoom (step_at t f Mode.Format s) k ps es) where
  pub one_fits : 40 * k.pieces + 40 ≤ length ps
  one_fits = open_fits t f Mode.Format s k.pieces ps o.within o.brace o.alone r.pieces

  module _ {x : PlaceholderTold} {ps₁ : List ℕ} (w : ToldAndPut t f s.at.0 s.next (40 * k.pieces) ps ps₁ x) where
    step : Step.Placeholder (told_read t f s.at.0 s.next x) ≡ step_at t f Mode.Format s
    step = step_told t f Mode.Format s x o.within o.brace o.alone w.tells refl

    -- there is room for the records of what is told
    pub told_here : Room (noted_by k es) (noticed k.pieces (told_slots t s.at.0 x))
    told_here = told_room t f s.at.0 s.next x (rw (← step) at r)

    -- and they are all that is left
    pub open_told : {a : State} → a ≡ told_state s x → {q r₁ : Extent} {es₂ : List ℕ} → Notes t f k es (told_slots t s.at.0 x) q es₂ → r₁ ≡ one_more q →
        SteppedOn t f Mode.Format s k ps es (record { next = Some a; extent = r₁; given = x.spec.given }) ps₁ es₂
    unfolding told_read
    open_told e n z = stepped_on t f Mode.Format s step (stepped_told t f s.at.0 s.next x w.wrote n z) refl (sym (told_on t f s x e))
