-- `answer::decide::is_long` meets its contract: the tests are the definition's, the text's first.
use borrow.Author.Tests.{lt-ltb, le-ltb}
use Rattle.utf8.specs.Choice.{pick}
use Rattle.reading.specs.Answers.{is_long}
use Rattle.answer.proofs.decide.is_long.Goals as goal

pub returns-then-text-gt65535 : goal.returns-then-text-gt65535
unfolding is_long pick
returns-then-text-gt65535 c = rw (lt-ltb _ _ c.if-text-gt65535.true)

pub returns-then-given : goal.returns-then-given
unfolding is_long pick
returns-then-given c = rw (le-ltb _ _ c.if-text-gt65535.false, c.if-given.true)

pub returns-else-given : goal.returns-else-given
unfolding is_long pick
returns-else-given c = rw (le-ltb _ _ c.if-text-gt65535.false, c.if-given.false)
