-- `quick::is_type_sign` meets its contract: it is the definition, test by test.
use borrow.Author.Tests.{eq-eqb, ne_eqb}
use Rattle.utf8.specs.Choice.{pick}
use Rattle.quick.specs.PartsTold.{sign_byte}
use Rattle.quick.proofs.is_type_sign.Goals as goal

pub returns-then-b-eq63 : goal.returns-then-b-eq63
unfolding sign_byte pick
returns-then-b-eq63 c = rw (eq-eqb _ _ c.if-b-eq63.true)

pub returns-then-b-eq120 : goal.returns-then-b-eq120
unfolding sign_byte pick
returns-then-b-eq120 c = rw (ne_eqb _ _ c.if-b-eq63.false, eq-eqb _ _ c.if-b-eq120.true)

pub returns : goal.returns
unfolding sign_byte pick
returns c = rw (ne_eqb _ _ c.if-b-eq63.false, ne_eqb _ _ c.if-b-eq120.false)
