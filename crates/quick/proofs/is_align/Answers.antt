-- `quick::is_align` meets its contract: it is the definition, test by test.
use borrow.Author.Tests.{eq-eqb, ne_eqb}
use Rattle.utf8.specs.Choice.{pick}
use Rattle.quick.specs.PartsTold.{align_byte}
use Rattle.quick.proofs.is_align.Goals as goal

pub returns-then-b-eq60 : goal.returns-then-b-eq60
unfolding align_byte pick
returns-then-b-eq60 c = rw (eq-eqb _ _ c.if-b-eq60.true)

pub returns-then-b-eq62 : goal.returns-then-b-eq62
unfolding align_byte pick
returns-then-b-eq62 c = rw (ne_eqb _ _ c.if-b-eq60.false, eq-eqb _ _ c.if-b-eq62.true)

pub returns : goal.returns
unfolding align_byte pick
returns c = rw (ne_eqb _ _ c.if-b-eq60.false, ne_eqb _ _ c.if-b-eq62.false)
