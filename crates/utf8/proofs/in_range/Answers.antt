-- `utf8::in_range` meets its contract: each way out rewrites with its tests. Assumes nothing.
use borrow.Author.Tests.{le-leb, lt-leb}
use Rattle.utf8.specs.Choice.{within}
use Rattle.utf8.proofs.in_range.Goals as goal

pub returns-then-x-hi : goal.returns-then-x-hi
unfolding within
returns-then-x-hi c = simp (le-leb _ _ c.if-lo-x.true, le-leb _ _ c.if-x-hi.true)

pub returns-else-x-hi : goal.returns-else-x-hi
unfolding within
returns-else-x-hi c = simp (le-leb _ _ c.if-lo-x.true, lt-leb _ _ c.if-x-hi.false)

pub returns-else-lo-x : goal.returns-else-lo-x
unfolding within
returns-else-lo-x c = simp (lt-leb _ _ c.if-lo-x.false)
