-- `quick::is_raw` meets its contract: it is the definition, test by test.
use borrow.Author.Tests.{eq-eqb, ne_eqb}
use Rattle.quick.specs.PartsTold.{raw_word}
use Rattle.quick.proofs.is_raw.Goals as goal

pub returns-then-b-ne114 : goal.returns-then-b-ne114
unfolding raw_word
returns-then-b-ne114 c = rw (ne_eqb _ _ c.if-b-ne114.true)

pub returns-then-end-at : goal.returns-then-end-at
unfolding raw_word
returns-then-end-at c = rw (eq-eqb _ _ c.if-b-ne114.false, ne_eqb _ _ c.if-end-at.true)

pub returns : goal.returns
unfolding raw_word
returns c = rw (eq-eqb _ _ c.if-b-ne114.false, eq-eqb _ _ c.if-end-at.false, ← c.byte.ensures)
