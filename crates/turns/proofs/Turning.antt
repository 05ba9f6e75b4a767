-- What one step does to the pieces and the faults that are left at a cursor. Rests on Turns, TurnLaws and `laws`' WalkLaws.
use Rattle.std.specs.Prelude.{Some, None}
use Prim.Native.Nat.{ℕ, ◌+◌, ◌-◌, ◌≤◌, ◌<◌}
use mathlib.Core.Path.{◌≡◌, refl}
use mathlib.Core.List.{List, [], ◌∷◌}
use native.Mathlib.Nat.{le_trans}
use native.Mathlib.Omega.{arith}
use lib.ListN.{length, get_or, drop_of_length-le}
use Rattle.frame.specs.declared.Frame.{Frame}
use Rattle.reading.specs.declared.Fault.{Fault}
use Rattle.frame.specs.declared.Mode.{Mode}
use Rattle.reading.specs.Steps.{step_at, onward}
use Rattle.laws.specs.StepLaws.{steps_none}
use Rattle.reading.specs.Faults.{step_slots, wrong, finding, marked}
use Rattle.laws.specs.FaultLaws.{wrong_slot, slots_few}
use Rattle.reading.specs.Lists.{gather, pieces_of, findings}
use Rattle.reading.specs.declared.Piece.{Piece}
use Rattle.reading.specs.declared.State.{State}
use Rattle.reading.specs.declared.Step.{Step}
use Rattle.turns.specs.Turns.{Fresh, piece_of, pieces_at, faults_at}
use Rattle.faults.specs.Slots.{FirstWrong}
use Rattle.turns.specs.TurnLaws.{faults_first}
use Rattle.turns.specs.declared.Cursor.{Cursor}
use Rattle.laws.specs.WalkLaws.{kept_on, steps_some, steps_on, steps_over}

abbrev pub cursor_of : State → ℕ → ℕ → Cursor
cursor_of s k n = record { state = s; left = k; pieces = n }

-- a step after which reading is over has no piece
over_piece : (s : State) (x : Step) → onward s x ≡ None → pieces_of x ≡ []
over_piece s Step.End e = refl
over_piece s (Step.Stop p) e = refl
over_piece s (Step.Literal r) e = cc
over_piece s (Step.Placeholder p) e = cc

-- a step's piece is the one that is listed of it
listed_piece : (x : Step) {p : Piece} → piece_of x ≡ Some p → pieces_of x ≡ p ∷ []
listed_piece Step.End e = cc
listed_piece (Step.Stop p) e = cc
listed_piece (Step.Literal r) e = cc
listed_piece (Step.Placeholder p) e = cc

-- a step after which reading goes on has one
on_piece : (s : State) (x : Step) {a : State} → onward s x ≡ Some a → length (pieces_of x) ≡ 1
on_piece s Step.End e = cc
on_piece s (Step.Stop p) e = cc
on_piece s (Step.Literal r) e = refl
on_piece s (Step.Placeholder p) e = refl

-- so that one more is listed after it
one_more_lem : (s : State) (x : Step) {a : State} (n : ℕ) → onward s x ≡ Some a → n + length (pieces_of x) ≡ n + 1
one_more_lem s x n e = omega (arith, on_piece s x e)

module _ (t : List ℕ) (f : Frame) (m : Mode) (c : Cursor) where
  -- where no step is left, nothing is
  pub pieces_none : c.left ≤ 0 → pieces_at t f m c ≡ []
  unfolding pieces_at gather
  pieces_none h = rw (steps_none t f m c.left c.state h)

  pub faults_none : (slot : ℕ) → c.left ≤ 0 → faults_at t f m c slot ≡ []
  unfolding faults_at
  faults_none slot h = rw (steps_none t f m c.left c.state h)

  module _ (some : 0 < c.left) {x : Step} (e : x ≡ step_at t f m c.state) where
    -- the last step has no piece
    pub pieces_over : onward c.state x ≡ None → pieces_at t f m c ≡ []
    unfolding pieces_at gather
    pieces_over g = rw (steps_over t f m c.state e c.left some g, over_piece c.state x g)

    -- each other step has one, and then come those after it
    pub pieces_on : {a : State} {p : Piece} → onward c.state x ≡ Some a → piece_of x ≡ Some p →
        pieces_at t f m c ≡ p ∷ pieces_at t f m (cursor_of a (c.left - 1) (c.pieces + 1))
    unfolding pieces_at gather
    pieces_on g h = rw (steps_on t f m c.state e c.left some g, listed_piece x h)

    -- a run's cursor after a step is one that it has
    pub fresh_on : {a : State} → onward c.state x ≡ Some a → Fresh c → Fresh (cursor_of a (c.left - 1) (c.pieces + 1))
    fresh_on g h = (kept_on t f m c.state e c.left some g h.0, omega (arith, h.1))

    module _ (slot k : ℕ) (w : FirstWrong x slot k) where
      -- a slot that is not clean gives the next fault
      pub faults_found : k < 13 → faults_at t f m c slot ≡ finding c.pieces (get_or (step_slots x) k Fault.Clean) ∷ faults_at t f m c (k + 1)
      unfolding faults_at marked
      faults_found h =
          rw (steps_some t f m c.state e c.left some, w.skipped, wrong_slot (step_slots x) k (w.found h))

      -- the last step has no further fault
      pub faults_over : 13 ≤ k → onward c.state x ≡ None → faults_at t f m c slot ≡ []
      unfolding faults_at findings wrong marked
      faults_over h g =
          rw (steps_over t f m c.state e c.left some g, w.skipped, drop_of_length-le (step_slots x) (le_trans (slots_few x) h))

      -- past the last slot come the faults of the next step
      pub faults_on : {a : State} → 13 ≤ k → onward c.state x ≡ Some a →
          faults_at t f m c slot ≡ faults_at t f m (cursor_of a (c.left - 1) (c.pieces + 1)) 0
      unfolding faults_at wrong marked
      faults_on h g =
          rw (
            steps_on t f m c.state e c.left some g,
            w.skipped,
            drop_of_length-le (step_slots x) (le_trans (slots_few x) h),
            one_more_lem c.state x c.pieces g,
            faults_first,
          )
