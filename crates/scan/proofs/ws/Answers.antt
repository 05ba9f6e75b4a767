-- `scan::ws` meets its contract: the whitespace ends where `utf8` says.
use Rattle.std.proofs.Common.{ap}
use Rattle.frame.specs.Places.{place}
use Rattle.scan.specs.Characters.{spaces_past}
use Rattle.scan.proofs.ws.Goals as goal

pub returns : goal.returns
unfolding spaces_past
returns c = ap place c.space_end.ensures
