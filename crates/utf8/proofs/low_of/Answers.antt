-- `utf8::low_of` meets its contract: each way out rewrites with its tests. Assumes nothing.
use borrow.Author.Tests.{eq-eqb, ne_eqb}
use Rattle.utf8.specs.Choice.{pick}
use Rattle.utf8.specs.Utf8.{low}
use Rattle.utf8.proofs.low_of.Goals as goal

pub returns-then-b-eq224 : goal.returns-then-b-eq224
unfolding low pick
returns-then-b-eq224 c = simp (eq-eqb _ _ c.if-b-eq224.true)

pub returns-then-b-eq240 : goal.returns-then-b-eq240
unfolding low pick
returns-then-b-eq240 c = simp (ne_eqb _ _ c.if-b-eq224.false, eq-eqb _ _ c.if-b-eq240.true)

pub returns-else-b-eq240 : goal.returns-else-b-eq240
unfolding low pick
returns-else-b-eq240 c = simp (ne_eqb _ _ c.if-b-eq224.false, ne_eqb _ _ c.if-b-eq240.false)
