-- `totals::two` meets its contract: two bytes say one number, and it them.
use native.Mathlib.Omega.{arith}
use Rattle.totals.proofs.Takings.{two_said}
use Rattle.totals.proofs.two.Goals as goal

pub returns : goal.returns
returns c = two_said c.args.low c.args.high (omega (arith, c.ranges.low)) (omega (arith, c.ranges.high))
