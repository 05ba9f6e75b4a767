-- The shape with its numbers is what the line has.
use Rattle.std.proofs.Common.{rules}
use Rattle.utf8.specs.Choice.{pick}
use Rattle.listing.specs.Shapes.{shaped}
use Rattle.listing.proofs.literal.Goals as goal

pub returns : goal.returns
unfolding shaped pick
returns g c = search rules
