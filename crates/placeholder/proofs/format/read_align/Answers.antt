-- `placeholder::format::read_align` meets its contract: it is the definition, sign by sign.
use Rattle.utf8.specs.Choice.{pick}
use Rattle.placeholder.specs.Parts.{align_read}
use Rattle.placeholder.proofs.format.read_align.Goals as goal

pub returns-then-left : goal.returns-then-left
unfolding align_read pick
returns-then-left c = rw (← c.consume-left.ensures, c.if-left.true)

pub returns-then-right : goal.returns-then-right
unfolding align_read pick
returns-then-right c =
    rw (← c.consume-left.ensures, c.if-left.false, ← c.consume-right.ensures, c.if-right.true)

pub returns-then-center : goal.returns-then-center
unfolding align_read pick
returns-then-center c =
    rw (
      ← c.consume-left.ensures,
      c.if-left.false,
      ← c.consume-right.ensures,
      c.if-right.false,
      ← c.consume-center.ensures,
      c.if-center.true,
    )

pub returns : goal.returns
unfolding align_read pick
returns c =
    rw (
      ← c.consume-left.ensures,
      c.if-left.false,
      ← c.consume-right.ensures,
      c.if-right.false,
      ← c.consume-center.ensures,
      c.if-center.false,
    )
