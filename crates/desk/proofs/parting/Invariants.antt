-- What is shared from i on makes what both share.
use Rattle.std.proofs.Common.{◌≡◌}
use Rattle.desk.specs.Partings.{shared}
use Rattle.desk.specs.PartingLaws.{shared_from}
use Rattle.desk.proofs.parting.Given as goal

abbrev pub invariant-loop-i : goal.invariant-loop-i
invariant-loop-i l = shared_from l.a l.b l.i ≡ shared l.a l.b
