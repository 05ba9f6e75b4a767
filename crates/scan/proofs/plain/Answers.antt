-- `scan::plain` meets its contract: each way out rewrites with its tests.
use Rattle.std.proofs.Common.{arith, eq-eqb, ne_eqb}
use Rattle.utf8.specs.Choice.{pick}
use Rattle.scan.specs.Characters.{is_plain}
use Rattle.scan.proofs.plain.Goals as goal

pub returns-then-b-eq123 : goal.returns-then-b-eq123
unfolding is_plain pick
returns-then-b-eq123 c = (simp (eq-eqb _ _ c.if-b-eq123.true), omega arith)

pub returns-then-b-eq125 : goal.returns-then-b-eq125
unfolding is_plain pick
returns-then-b-eq125 c = (simp (ne_eqb _ _ c.if-b-eq123.false, eq-eqb _ _ c.if-b-eq125.true), omega arith)

pub returns : goal.returns
unfolding is_plain pick
returns c = (simp (ne_eqb _ _ c.if-b-eq123.false, ne_eqb _ _ c.if-b-eq125.false), omega arith)
