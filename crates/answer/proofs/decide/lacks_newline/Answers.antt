-- `answer::decide::lacks_newline` meets its contract: the tests are the definition's.
use Rattle.utf8.specs.Choice.{pick}
use Rattle.reading.specs.Answers.{lacks_newline}
use Rattle.answer.proofs.decide.lacks_newline.Goals as goal

pub returns-then-ends_in_newline : goal.returns-then-ends_in_newline
unfolding lacks_newline pick
returns-then-ends_in_newline c = rw (c.if-newline.true, ← c.ends_in_newline.ensures, c.if-ends_in_newline.true)

pub returns-else-ends_in_newline : goal.returns-else-ends_in_newline
unfolding lacks_newline pick
returns-else-ends_in_newline c = rw (c.if-newline.true, ← c.ends_in_newline.ensures, c.if-ends_in_newline.false)

pub returns-else-newline : goal.returns-else-newline
unfolding lacks_newline pick
returns-else-newline c = rw c.if-newline.false
