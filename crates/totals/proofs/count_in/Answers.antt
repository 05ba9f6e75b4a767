-- `totals::count_in` meets its contract: a number set is its line once more, and a line past the last changes nothing.
use mathlib.Core.Path.{sym}
use native.Mathlib.Omega.{arith}
use Rattle.totals.proofs.Rooms.{set_added, added_out}
use Rattle.totals.proofs.count_in.Goals as goal

pub overflow_add-totals : goal.overflow_add-totals
overflow_add-totals c = omega (arith, c.requires c.args.line)

pub returns-then-line-totals : goal.returns-then-line-totals
returns-then-line-totals c = set_added c.args.line c.args.totals.now c.if-line-totals.true

pub returns-else-line-totals : goal.returns-else-line-totals
returns-else-line-totals c = sym (added_out 0 c.args.line c.args.totals.now (omega (arith, c.if-line-totals.false)))
