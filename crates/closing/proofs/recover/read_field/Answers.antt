-- `closing::recover::read_field` meets its contract: it is the definition, call by call, with no dot, with a field that is closed
-- and with one that is not.
use borrow.Author.Tests.{not-true, not-false}
use Rattle.utf8.specs.Choice.{pick}
use Rattle.closing.specs.Recovery.{field_read}
use Rattle.closing.proofs.recover.read_field.Goals as goal
use Rattle.closing.proofs.recover.read_field.Goals.{then-close, else-close}

pub returns-then-not-dot : goal.returns-then-not-dot
unfolding pick field_read
returns-then-not-dot c =
    rw (← c.consume-dot.ensures, not-true c.consume-dot.result.ate c.if-not-dot.true, ← c.passed_to.ensures)

pub returns : goal.returns
unfolding pick field_read
returns c =
    elim c.if-close.branch [
      | then-close w ↦
          rw (
            ← c.consume-dot.ensures,
            not-false c.consume-dot.result.ate c.if-not-dot.false,
            ← c.argument-read.ensures,
            ← c.text_taken.ensures,
            ← c.consume-close.ensures,
            w.if-close.true,
            w.hint-is,
            ← w.field_hint-hint.ensures,
          )
      | else-close w ↦
          rw (
            ← c.consume-dot.ensures,
            not-false c.consume-dot.result.ate c.if-not-dot.false,
            ← c.argument-read.ensures,
            ← c.text_taken.ensures,
            ← c.consume-close.ensures,
            w.if-close.false,
            w.hint-is,
          )
    ]
