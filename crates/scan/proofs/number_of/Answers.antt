-- `scan::number_of` meets its contract: it is the definition, test by test.
use Rattle.std.proofs.Common.{eq-eqb, ne_eqb}
use Rattle.utf8.specs.Choice.{pick}
use Rattle.scan.specs.Words.{number_from}
use Rattle.scan.specs.Wrapping.{told}
use Rattle.scan.proofs.number_of.Goals as goal

pub returns-then-at-end : goal.returns-then-at-end
unfolding number_from told pick
returns-then-at-end c = rw (eq-eqb _ _ c.if-at-end.true)

pub returns-then-kept : goal.returns-then-kept
unfolding number_from told pick
returns-then-kept c = rw (ne_eqb _ _ c.if-at-end.false, c.if-kept.true)

pub returns : goal.returns
unfolding number_from told pick
returns c = rw (ne_eqb _ _ c.if-at-end.false, c.if-kept.false)
