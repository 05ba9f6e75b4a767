-- `quick::is_blank` meets its contract: it is the definition, test by test.
use borrow.Author.Tests.{eq-eqb, ne_eqb}
use Rattle.quick.specs.PartsTold.{blank_word}
use Rattle.quick.proofs.is_blank.Goals as goal

pub returns-then-b-eq95 : goal.returns-then-b-eq95
unfolding blank_word
returns-then-b-eq95 c = rw (eq-eqb _ _ c.if-b-eq95.true)

pub returns-else-b-eq95 : goal.returns-else-b-eq95
unfolding blank_word
returns-else-b-eq95 c = rw (ne_eqb _ _ c.if-b-eq95.false)
