-- The counts of the slots add up, and the missing brace is one.
use native.Mathlib.Omega.{arith}
use Rattle.laws.specs.FaultLaws.{missing_count}
use Rattle.laws.specs.RoomLaws.{wrong_gap_one}
use Rattle.tally.proofs.missing_count.Goals as goal

pub flaw_count-requires : goal.flaw_count-requires
flaw_count-requires c = tt

pub argument_count-requires : goal.argument_count-requires
argument_count-requires c = tt

pub hint_count-requires : goal.hint_count-requires
hint_count-requires c = tt

pub returns : goal.returns
returns c = (
  rw (
    missing_count,
    wrong_gap_one,
    ← c.flaw_count.ensures.0,
    ← c.argument_count.ensures.0,
    ← c.hint_count.ensures.0,
  ),
  omega arith,
)
