-- `spans::put_last` meets its contract: one line at the end of the text, none after any other step.
use Rattle.utf8.specs.Choice.{pick}
use Rattle.spans.proofs.put_last.Goals as goal

pub put_span-requires : goal.put_span-requires
unfolding pick
put_span-requires c = rw c.in-End.is at c.requires

pub returns-in-End : goal.returns-in-End
unfolding pick
returns-in-End c = rw c.in-End.is c.put_span.ensures
