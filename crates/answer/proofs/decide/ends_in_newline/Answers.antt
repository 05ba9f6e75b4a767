-- `answer::decide::ends_in_newline` meets its contract: the last byte is asked where there is one.
use borrow.Author.Tests.{eq-eqb, ne_eqb}
use Rattle.utf8.specs.Choice.{pick}
use Rattle.reading.specs.Answers.{ends_in_newline}
use Rattle.answer.proofs.decide.ends_in_newline.Goals as goal

pub returns-then-n-eq0 : goal.returns-then-n-eq0
unfolding ends_in_newline pick
returns-then-n-eq0 c = rw (eq-eqb _ _ c.if-n-eq0.true)

pub returns : goal.returns
unfolding ends_in_newline pick
returns c = rw (ne_eqb _ _ c.if-n-eq0.false)
