-- `placeholder::format::read_sign` meets its contract: it is the definition, sign by sign.
use Rattle.utf8.specs.Choice.{pick}
use Rattle.placeholder.specs.Parts.{sign_read}
use Rattle.placeholder.proofs.format.read_sign.Goals as goal

pub returns-then-plus : goal.returns-then-plus
unfolding sign_read pick
returns-then-plus c = rw (← c.consume-plus.ensures, c.if-plus.true)

pub returns-then-minus : goal.returns-then-minus
unfolding sign_read pick
returns-then-minus c =
    rw (← c.consume-plus.ensures, c.if-plus.false, ← c.consume-minus.ensures, c.if-minus.true)

pub returns : goal.returns
unfolding sign_read pick
returns c =
    rw (← c.consume-plus.ensures, c.if-plus.false, ← c.consume-minus.ensures, c.if-minus.false)
