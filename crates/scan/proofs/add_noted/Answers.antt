-- `scan::add_noted` meets its contract: a sum wraps exactly where it comes out below a part.
use Rattle.std.proofs.Common.{rules}
use Rattle.scan.proofs.Numbers.{sum_noted}
use Rattle.scan.proofs.add_noted.Goals as goal

pub returns : goal.returns
returns c = sum_noted _ _ _ (search rules) (search rules) c.wrapping_add_u16-sum.ensures.value
