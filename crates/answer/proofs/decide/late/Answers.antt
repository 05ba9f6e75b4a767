-- `answer::decide::late` meets its contract: its tests are the definition's, in the same order, and a text that passes them is admitted.
use borrow.Author.Tests.{lt-ltb, le-ltb}
use Rattle.utf8.specs.Choice.{pick}
use Rattle.laws.specs.Deciding.{late_answer}
use Rattle.answer.proofs.Decisions.{refuses, admits}
use Rattle.answer.proofs.decide.late.Goals as goal

pub returns-then-valid-text : goal.returns-then-valid-text
unfolding late_answer pick
returns-then-valid-text c = refuses _ _ _ _ (rw (lt-ltb _ _ c.if-valid-text.true))

pub returns-then-lacks_newline : goal.returns-then-lacks_newline
unfolding late_answer pick
returns-then-lacks_newline c =
    refuses _ _ _ _ (rw (
      le-ltb _ _ c.if-valid-text.false,
      ← c.lacks_newline.ensures,
      c.if-lacks_newline.true,
    ))

pub returns : goal.returns
unfolding late_answer pick
returns c =
    admits _ _ _ _ c.admitted.ensures (rw (
      le-ltb _ _ c.if-valid-text.false,
      ← c.lacks_newline.ensures,
      c.if-lacks_newline.false,
    ))
