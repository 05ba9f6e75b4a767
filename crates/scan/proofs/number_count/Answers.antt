-- `scan::number_count` meets its contract: it is the definition, call by call.
use Rattle.utf8.specs.Choice.{pick}
use Rattle.scan.specs.Counts.{number_count}
use Rattle.scan.proofs.number_count.Goals as goal

pub returns-then-dollar : goal.returns-then-dollar
unfolding number_count pick
returns-then-dollar c = rw (← c.consume-dollar.ensures, c.if-dollar.true)

pub returns : goal.returns
unfolding number_count pick
returns c = rw (← c.consume-dollar.ensures, c.if-dollar.false)
