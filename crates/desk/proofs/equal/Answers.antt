-- Lists are the same bytes exactly when they are equal.
use Rattle.std.proofs.Common.{rules}
use Rattle.frame.specs.FrameLaws.{same_exactly}
use Rattle.desk.proofs.equal.Goals as goal

pub returns : goal.returns
returns c = search (rules, same_exactly)
