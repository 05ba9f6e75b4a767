-- `passing::is_brace` meets its contract: it is either of the two.
use borrow.Author.Tests.{eq-eqb, ne_eqb}
use Rattle.passing.proofs.is_brace.Goals as goal

pub returns-then-b-eq123 : goal.returns-then-b-eq123
returns-then-b-eq123 c = rw (eq-eqb _ _ c.if-b-eq123.true)

pub returns : goal.returns
returns c = rw (ne_eqb _ _ c.if-b-eq123.false)
