-- `arrivals::marked` meets its contract: each way out by its test. Assumes nothing.
use Rattle.utf8.specs.Choice.{pick}
use Rattle.arrivals.proofs.marked.Goals as goal

pub returns-then-yes : goal.returns-then-yes
unfolding pick
returns-then-yes c = rw c.if-yes.true

pub returns-else-yes : goal.returns-else-yes
unfolding pick
returns-else-yes c = rw c.if-yes.false
