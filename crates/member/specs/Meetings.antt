-- What a run over the pieces has met, a piece at a time, and what it is told at the end. No contract of a call cites this. Rests on membership's definitions.
use Rattle.std.specs.Prelude.{ℕ, ◌+◌, ◌≡◌, Bool, true, false, not, List, eqb, leb, ltb, length, Option, None, Some}
use Rattle.utf8.specs.Choice.{pick, either}
use Rattle.frame.specs.declared.Frame.{Frame}
use Rattle.frame.specs.declared.Mode.{Mode}
use Rattle.placeholder.specs.declared.Place.{Place}
use Rattle.reading.specs.Steps.{step_at}
use Rattle.reading.specs.declared.Piece.{Piece}
use Rattle.reading.specs.declared.State.{State}
use Rattle.reading.specs.declared.Step.{Step}
use Rattle.membership.specs.Members.{number, date, is_name, is_unnamed, is_taken, takes, is_the_name, is_called}
use Rattle.membership.specs.Verdicts.{first_where, second_where}
use Rattle.membership.specs.declared.Verdict.{Verdict}
use Rattle.member.specs.declared.Sorts.{Sorts}
use Rattle.member.specs.declared.Met.{Met}
use Rattle.member.specs.declared.clear.MetOn.{MetOn}
use Rattle.passing.specs.Clear.{Clear}
use Rattle.quick.specs.declared.CountKind.{CountKind}
use Rattle.quick.specs.declared.PlaceholderTold.{PlaceholderTold}

-- the sorts of a placeholder, and of a literal
abbrev pub sorts_at : List ℕ → Place → Bool → Sorts
sorts_at t p taken =
    record {
      unnamed = not (is_name p);
      taken = taken;
      number = is_the_name t number p;
      date = is_the_name t date p;
    }

abbrev pub no_sorts : Sorts
no_sorts =
    record {
      unnamed = false;
      taken = false;
      number = false;
      date = false;
    }

-- the first of a sort, where it is known for n pieces and there is one more
unfoldable pub first_after : ℕ → ℕ → Bool → ℕ
first_after found n here = pick (ltb found n) found (pick here n (n + 1))

-- the second
unfoldable pub again_after : ℕ → ℕ → ℕ → Bool → ℕ
again_after found second n here = pick (ltb found n) (first_after second n here) (n + 1)

-- one piece more
unfoldable pub met_after : Met → Sorts → Met
met_after m x =
    let n = m.pieces in
    record {
      pieces = n + 1;
      unnamed = first_after m.unnamed n x.unnamed;
      taken = first_after m.taken n x.taken;
      number = first_after m.number n x.number;
      again = again_after m.number m.again n x.number;
      date = first_after m.date n x.date;
    }

-- a step's piece, if it has one
abbrev pub met_step : List ℕ → Met → Step → Met
met_step t m Step.End = m
met_step t m (Step.Stop p) = m
met_step t m (Step.Literal r) = met_after m no_sorts
met_step t m (Step.Placeholder p) =
    met_after m (sorts_at t p.argument.place (either (is_taken p.argument.spec.width) (is_taken p.argument.spec.precision)))

-- rules 2 to 5
unfoldable pub told : Met → Verdict
told m =
    pick (ltb m.unnamed m.pieces) (Verdict.Broken 2 m.unnamed)
    (pick (ltb m.taken m.pieces) (Verdict.Broken 3 m.taken)
    (pick (eqb m.number m.pieces) (Verdict.Broken 4 m.pieces)
    (pick (ltb m.again m.pieces) (Verdict.Broken 4 m.again)
    (pick (ltb m.date m.number) (Verdict.Broken 5 m.date)
    Verdict.Yes))))

-- mode 1 or 2
unfoldable pub is_other : ℕ → Bool
is_other mode = pick (eqb mode 0) false (leb mode 2)

-- what a run has met in some pieces
unfoldable pub met_of : List ℕ → List Piece → Met
met_of t ps =
    record {
      pieces = length ps;
      unnamed = first_where is_unnamed ps;
      taken = first_where takes ps;
      number = first_where (is_called t number) ps;
      again = second_where (is_called t number) ps;
      date = first_where (is_called t date) ps;
    }

-- a count is taken: an argument's number, a star or a name
abbrev pub kind_taken : CountKind → Bool
kind_taken CountKind.Nothing = false
kind_taken (CountKind.Number value) = false
kind_taken (CountKind.Argument value) = true
kind_taken CountKind.Star = true
kind_taken CountKind.Name = true
kind_taken CountKind.Dot = false

-- one of those behind a colon is
unfoldable pub taken_told : PlaceholderTold → Bool
taken_told x = pick x.colon (either (kind_taken x.spec.width.kind) (kind_taken x.spec.precision.kind)) false

-- A STEP IN WHICH NOTHING IS WRONG is met: reading goes on, and its piece is one more
pub record StepMet (t : List ℕ) (f : Frame) (s : State) (m : Met) (r : MetOn) : Type 0 where
  pub clear : Clear t f Mode.Format s r.state
  pub met : r.met ≡ met_step t m (step_at t f Mode.Format s)

abbrev pub ClearMet : List ℕ → Frame → State → Met → Option MetOn → Type 0
ClearMet t f s m None = Unit {0}
ClearMet t f s m (Some r) = StepMet t f s m r
