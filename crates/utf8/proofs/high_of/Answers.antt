-- `utf8::high_of` meets its contract: each way out rewrites with its tests. Assumes nothing.
use borrow.Author.Tests.{eq-eqb, ne_eqb}
use Rattle.utf8.specs.Choice.{pick}
use Rattle.utf8.specs.Utf8.{high}
use Rattle.utf8.proofs.high_of.Goals as goal

pub returns-then-b-eq237 : goal.returns-then-b-eq237
unfolding high pick
returns-then-b-eq237 c = simp (eq-eqb _ _ c.if-b-eq237.true)

pub returns-then-b-eq244 : goal.returns-then-b-eq244
unfolding high pick
returns-then-b-eq244 c = simp (ne_eqb _ _ c.if-b-eq237.false, eq-eqb _ _ c.if-b-eq244.true)

pub returns-else-b-eq244 : goal.returns-else-b-eq244
unfolding high pick
returns-else-b-eq244 c = simp (ne_eqb _ _ c.if-b-eq237.false, ne_eqb _ _ c.if-b-eq244.false)
