-- The five counts add up, and each is 0 or 1.
use native.Mathlib.Omega.{arith}
use Rattle.laws.specs.FaultLaws.{argument_count}
use Rattle.tally.proofs.argument_count.Goals as goal

pub flaw_count-requires : goal.flaw_count-requires
flaw_count-requires c = tt

pub flaw_count-requires-2 : goal.flaw_count-requires-2
flaw_count-requires-2 c = tt

pub flaw_count-requires-3 : goal.flaw_count-requires-3
flaw_count-requires-3 c = tt

pub flaw_count-requires-4 : goal.flaw_count-requires-4
flaw_count-requires-4 c = tt

pub flaw_count-requires-5 : goal.flaw_count-requires-5
flaw_count-requires-5 c = tt

pub returns : goal.returns
returns c = (
  rw (
    argument_count,
    ← c.flaw_count.ensures.0,
    ← c.flaw_count-2.ensures.0,
    ← c.flaw_count-3.ensures.0,
    ← c.flaw_count-4.ensures.0,
    ← c.flaw_count-5.ensures.0,
  ),
  omega arith,
)
