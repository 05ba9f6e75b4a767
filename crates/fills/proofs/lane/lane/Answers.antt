-- `fills::lane::lane` meets its contract. The invariant: the steps so far are passed and their pieces written. The measure is what is left of the text.
use native.Mathlib.Omega.{arith}
use Rattle.fills.proofs.Ways.{way_first, way_room, way_on, way_done, clear_later}
use Rattle.fills.proofs.lane.lane.Goals as goal

pub loop-step-init : goal.loop-step-init
loop-step-init c = let a = c.args in way_first a.text.now a.frame a.mode a.from a.written a.pieces.now

pub pass-requires : goal.pass-requires
pass-requires c =
    let a = c.args in
    let g = c.loop-step.invariant in
    (c.requires.0, c.requires.1.next g.way, way_room a.text.now a.frame a.mode a.from a.written a.pieces.now c.requires.1 g)

pub returns-in_default : goal.returns-in_default
returns-in_default c =
    let a = c.args in
    way_done a.text.now a.frame a.mode a.from a.written a.pieces.now c.requires.1 c.loop-step.invariant c.in_default.ensures

pub overflow_add-n : goal.overflow_add-n
overflow_add-n c =
    let g = c.loop-step.invariant in
    omega (arith, c.requires.1.pieces g.way, g.count, c.well_formed)

pub overflow_add-given : goal.overflow_add-given
overflow_add-given c =
    let g = c.loop-step.invariant in
    omega (arith, c.requires.1.given g.way, c.in-Some.ensures.passes.given)

pub loop-step-smaller : goal.loop-step-smaller
loop-step-smaller c =
    let a = c.args in
    clear_later a.text.now a.frame a.mode _ _ c.in-Some.ensures.passes.clear

pub loop-step-preserved : goal.loop-step-preserved
loop-step-preserved c =
    let a = c.args in
    let p = c.in-Some.ensures in
    way_on a.text.now a.frame a.mode a.from a.written a.pieces.now c.requires.1 c.loop-step.invariant p.passes.clear p.wrote p.passes.given
