-- Every turn leaves a cursor that a run has.
use Rattle.turns.specs.Turns.{Fresh}
use Rattle.members.proofs.piece_at.Given as goal

abbrev pub invariant-loop : goal.invariant-loop
invariant-loop l = Fresh l.cursor
