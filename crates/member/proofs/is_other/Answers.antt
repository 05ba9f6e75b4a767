-- `member::is_other` meets its contract: the test is the definition's.
use borrow.Author.Tests.{eq-eqb, ne_eqb}
use Rattle.utf8.specs.Choice.{pick}
use Rattle.member.specs.Meetings.{is_other}
use Rattle.member.proofs.is_other.Goals as goal

pub returns-then-mode-eq0 : goal.returns-then-mode-eq0
unfolding is_other pick
returns-then-mode-eq0 c = rw (eq-eqb _ _ c.if-mode-eq0.true)

pub returns : goal.returns
unfolding is_other pick
returns c = rw (ne_eqb _ _ c.if-mode-eq0.false)
