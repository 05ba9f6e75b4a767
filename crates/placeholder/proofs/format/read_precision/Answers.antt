-- `placeholder::format::read_precision` meets its contract: it is the definition, one case with a dot and one without.
use Rattle.utf8.specs.Choice.{pick}
use Rattle.placeholder.specs.Parts.{precision_read}
use Rattle.placeholder.proofs.format.read_precision.Goals as goal

pub returns-then-dot : goal.returns-then-dot
unfolding precision_read pick
returns-then-dot c =
    rw (← c.consume-dot.ensures, c.if-dot.true, ← c.after_dot.ensures)

pub returns : goal.returns
unfolding precision_read pick
returns c = rw (← c.consume-dot.ensures, c.if-dot.false)
