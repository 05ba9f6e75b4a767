-- At a closed end nothing is wrong; where the brace is missing, what is counted there.
use native.Mathlib.Omega.{arith}
use Rattle.reading.specs.Faults.{wrong, closing_slots}
use Rattle.tally.proofs.closing_count.Goals as goal

pub missing_count-requires : goal.missing_count-requires
missing_count-requires c = tt

pub returns-in-Closed : goal.returns-in-Closed
unfolding closing_slots wrong
returns-in-Closed c = rw c.in-Closed.is (omega arith)

pub returns-in-Missing : goal.returns-in-Missing
unfolding closing_slots
returns-in-Missing c = rw c.in-Missing.is c.missing_count.ensures
