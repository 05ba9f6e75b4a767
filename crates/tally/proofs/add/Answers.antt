-- `tally::add` meets its contract: it is the definition, and within the limits no sum wraps.
use mathlib.Core.Path.{refl}
use Rattle.tally.proofs.add.Goals as goal

pub returns : goal.returns
returns c = refl
