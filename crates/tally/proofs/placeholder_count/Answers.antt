-- The argument's faults and those of the end, together.
use native.Mathlib.Omega.{arith}
use Rattle.reading.specs.Faults.{step_slots, faults_of}
use Rattle.laws.specs.FaultLaws.{count_++}
use Rattle.tally.proofs.placeholder_count.Goals as goal

pub argument_count-requires : goal.argument_count-requires
argument_count-requires c = tt

pub closing_count-requires : goal.closing_count-requires
closing_count-requires c = tt

pub returns : goal.returns
unfolding faults_of step_slots
returns c = (rw (count_++, ← c.argument_count.ensures.0, ← c.closing_count.ensures.0), omega arith)
