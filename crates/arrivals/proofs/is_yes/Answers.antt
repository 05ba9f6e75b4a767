-- `arrivals::is_yes` meets its contract: each way out by its test. Assumes nothing.
use borrow.Author.Tests.{eq-eqb, ne_eqb}
use Rattle.utf8.specs.Choice.{pick}
use Rattle.words.specs.Calls.{is_yes}
use Rattle.arrivals.proofs.is_yes.Goals as goal

pub returns-then-number-eq0 : goal.returns-then-number-eq0
unfolding is_yes pick
returns-then-number-eq0 c = rw (eq-eqb _ _ c.if-number-eq0.true)

pub returns-else-number-eq0 : goal.returns-else-number-eq0
unfolding is_yes pick
returns-else-number-eq0 c = rw (ne_eqb _ _ c.if-number-eq0.false)
