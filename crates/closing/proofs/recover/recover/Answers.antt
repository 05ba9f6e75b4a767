-- `closing::recover::recover` meets its contract: it is the definition, test by test; two characters remain where the place past
-- the first is within the text.
use borrow.Author.Tests.{lt-ltb, le-ltb}
use Rattle.utf8.specs.Choice.{pick}
use Rattle.closing.specs.Recovering.{recovering, recover_table}
use Rattle.closing.proofs.recover.recover.Goals as goal

pub returns-then-text-second : goal.returns-then-text-second
unfolding pick recovering
returns-then-text-second c =
    rw (recover_table, ← c.past-past.ensures, le-ltb _ _ c.if-text-second.true, ← c.passed_to.ensures)

pub returns-then-peek_is : goal.returns-then-peek_is
unfolding pick recovering
returns-then-peek_is c =
    rw (
      recover_table,
      ← c.past-past.ensures,
      lt-ltb _ _ c.if-text-second.false,
      ← c.peek_is.ensures,
      c.if-peek_is.true,
      ← c.after_question.ensures,
    )

pub returns-then-not-is_silent : goal.returns-then-not-is_silent
unfolding pick recovering
returns-then-not-is_silent c =
    rw (
      recover_table,
      ← c.past-past.ensures,
      lt-ltb _ _ c.if-text-second.false,
      ← c.peek_is.ensures,
      c.if-peek_is.false,
      ← c.sign_hint-hint.ensures,
      ← c.is_silent.ensures,
      c.if-not-is_silent.true,
      ← c.passed_to-then-not-is_silent.ensures,
    )

pub returns-then-identifier : goal.returns-then-identifier
unfolding pick recovering
returns-then-identifier c =
    rw (
      recover_table,
      ← c.past-past.ensures,
      lt-ltb _ _ c.if-text-second.false,
      ← c.peek_is.ensures,
      c.if-peek_is.false,
      ← c.sign_hint-hint.ensures,
      ← c.is_silent.ensures,
      c.if-not-is_silent.false,
      c.if-identifier.true,
      ← c.read_field.ensures,
    )

pub returns : goal.returns
unfolding pick recovering
returns c =
    rw (
      recover_table,
      ← c.past-past.ensures,
      lt-ltb _ _ c.if-text-second.false,
      ← c.peek_is.ensures,
      c.if-peek_is.false,
      ← c.sign_hint-hint.ensures,
      ← c.is_silent.ensures,
      c.if-not-is_silent.false,
      c.if-identifier.false,
      ← c.passed_to-2.ensures,
    )
