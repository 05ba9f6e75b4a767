-- `scan::is_empty` meets its contract: it compares the two places.
use Rattle.std.proofs.Common.{refl}
use Rattle.scan.specs.Counts.{is_empty}
use Rattle.scan.proofs.is_empty.Goals as goal

pub returns : goal.returns
unfolding is_empty
returns c = refl
