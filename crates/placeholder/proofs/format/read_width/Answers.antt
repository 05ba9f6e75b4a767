-- `placeholder::format::read_width` meets its contract: it is the definition for a count alone, for `0$`, and for the flag and a count.
use borrow.Author.Tests.{not-true, not-false}
use Rattle.utf8.specs.Choice.{pick}
use Rattle.placeholder.specs.Parts.{width_read}
use Rattle.placeholder.proofs.format.read_width.Goals as goal

pub returns-then-not-zero : goal.returns-then-not-zero
unfolding width_read pick
returns-then-not-zero c =
    rw (
      ← c.consume-zero.ensures,
      not-true c.consume-zero.result.ate c.if-not-zero.true,
      ← c.plain_width.ensures,
    )

pub returns-then-dollar : goal.returns-then-dollar
unfolding width_read pick
returns-then-dollar c =
    rw (
      ← c.consume-zero.ensures,
      not-false c.consume-zero.result.ate c.if-not-zero.false,
      ← c.consume-dollar.ensures,
      c.if-dollar.true,
      ← c.span_across.ensures,
    )

pub returns : goal.returns
unfolding width_read pick
returns c =
    rw (
      ← c.consume-zero.ensures,
      not-false c.consume-zero.result.ate c.if-not-zero.false,
      ← c.consume-dollar.ensures,
      c.if-dollar.false,
      ← c.plain_width-2.ensures,
    )
