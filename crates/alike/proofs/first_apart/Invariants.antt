-- Every turn leaves a cursor that a run has.
use Rattle.std.proofs.Common.{◌-◌, length}
use Rattle.turns.specs.Turns.{Fresh}
use Rattle.alike.proofs.first_apart.Given as goal

abbrev pub invariant-loop-a : goal.invariant-loop-a
invariant-loop-a l = Fresh l.c × Fresh l.d

abbrev pub decreases-loop-a : goal.decreases-loop-a
decreases-loop-a l = length l.one - l.i
