-- `totals::end_at` meets its contract: a length that stands there says where its text ends; where one of them is cut off, none stands there.
use native.Mathlib.Omega.{arith}
use Rattle.totals.proofs.Takings.{ends_short, ends_long, ends_here}
use Rattle.totals.proofs.end_at.Goals as goal

pub returns-then-bytes-at-lt2 : goal.returns-then-bytes-at-lt2
returns-then-bytes-at-lt2 c = ends_short c.args.bytes.now c.args.at c.if-bytes-at-lt2.true

pub returns-then-bytes-at : goal.returns-then-bytes-at
returns-then-bytes-at c = ends_long c.args.bytes.now c.args.at c.two-size.result c.requires c.if-bytes-at-lt2.false c.if-bytes-at.true c.two-size.ensures.1

pub overflow_add-result : goal.overflow_add-result
overflow_add-result c = omega (arith, c.two-size.ensures.0, c.requires)

pub overflow_add-result-2 : goal.overflow_add-result-2
overflow_add-result-2 c = omega (arith, c.two-size.ensures.0, c.requires)

pub returns : goal.returns
returns c = ends_here c.args.bytes.now c.args.at c.two-size.result c.requires c.if-bytes-at-lt2.false c.if-bytes-at.false c.two-size.ensures.0 c.two-size.ensures.1
