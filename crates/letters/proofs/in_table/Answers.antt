-- `letters::in_table` meets its contract. The invariant: the ranges below `lo` end before `c`, and those from `hi` on start past
-- it, so where the two meet no range holds `c`. The measure is the ranges between. Assumes nothing.
use Prim.Native.Nat.{◌+◌, ◌-◌, ◌/◌}
use mathlib.Core.Path.{sym}
use native.Mathlib.Omega.{arith}
use Rattle.letters.specs.TableLaws.{lo_place, hi_place, even, found}
use Rattle.letters.proofs.Bracket.{bracket_start, bracket_down, bracket_up, bracket_met}
use Rattle.letters.proofs.in_table.Goals as goal

pub loop-lo-init : goal.loop-lo-init
loop-lo-init c =
    let e = even 0 c.args.table.now c.requires in
    (bracket_start _ _ _ (omega arith), e)

pub loop-lo-preserved-then-c-table : goal.loop-lo-preserved-then-c-table
loop-lo-preserved-then-c-table c =
    let b = c.loop-lo.invariant.0 in
    let t = c.args.table.now in
    let m = c.loop-lo.lo + (c.loop-lo.hi - c.loop-lo.lo) / 2 in
    (bracket_down c.requires b m (omega arith) (omega arith) (rw (lo_place t m (omega arith)) at c.if-c-table.true), c.loop-lo.invariant.1)

pub loop-lo-preserved : goal.loop-lo-preserved
loop-lo-preserved c =
    let b = c.loop-lo.invariant.0 in
    let t = c.args.table.now in
    let m = c.loop-lo.lo + (c.loop-lo.hi - c.loop-lo.lo) / 2 in
    (bracket_up c.requires b m (omega arith) (omega arith) (rw (hi_place t m (omega arith)) at c.if-table-mid.true), c.loop-lo.invariant.1)

pub returns-else-table-mid : goal.returns-else-table-mid
returns-else-table-mid c =
    let b = c.loop-lo.invariant.0 in
    let t = c.args.table.now in
    let m = c.loop-lo.lo + (c.loop-lo.hi - c.loop-lo.lo) / 2 in
    sym (found t _ m (omega arith) (rw (lo_place t m (omega arith)) at c.if-c-table.false) (rw (hi_place t m (omega arith)) at c.if-table-mid.false))

pub returns : goal.returns
returns c = sym (bracket_met c.requires c.loop-lo.invariant.0 c.loop-lo-test.false)
