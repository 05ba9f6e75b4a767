-- `quick::ends_spec` meets its contract: it is the definition, test by test.
use borrow.Author.Tests.{eq-eqb, ne_eqb}
use Rattle.utf8.specs.Choice.{pick}
use Rattle.quick.specs.PartsTold.{ends_byte}
use Rattle.quick.proofs.ends_spec.Goals as goal

pub returns-then-b-eq125 : goal.returns-then-b-eq125
unfolding ends_byte pick
returns-then-b-eq125 c = rw (eq-eqb _ _ c.if-b-eq125.true)

pub returns : goal.returns
unfolding ends_byte pick
returns c = rw (ne_eqb _ _ c.if-b-eq125.false)
