-- `fills::run::run` meets its contract. The invariant: with the pieces and the records of the steps left both lists are as they are to be.
-- The measure is what is left of the text, since each step passes a byte.
use native.Mathlib.Omega.{arith}
use Rattle.fills.proofs.Running.{underway_first, underway_on, underway_over, standing_next, lane_room, lane_underway, lane_left, lane_over, back_few, run_later}
use Rattle.fills.proofs.Stopping.{left_over}
use Rattle.fills.proofs.run.run.Goals as goal

pub loop-frame-init : goal.loop-frame-init
loop-frame-init c =
    let a = c.args in
    underway_first a.text.now a.frame a.mode a.fronts a.pieces.now a.errors.now c.requires.1 c.requires.0 c.requires.2 c.requires.3

pub lane_in-stopped-requires : goal.lane_in-stopped-requires
lane_in-stopped-requires c =
    let a = c.args in
    (c.requires.0, lane_room a.text.now a.frame a.mode a.fronts a.pieces.now a.errors.now c.requires.1 c.requires.0.text c.loop-frame.invariant)

pub overflow_add-result : goal.overflow_add-result
overflow_add-result c =
    let a = c.args in
    let u = lane_underway a.text.now a.frame a.mode a.fronts a.pieces.now a.errors.now c.requires.1 c.requires.0.text c.loop-frame.invariant c.lane_in-stopped.ensures in
    omega (arith, back_few a.text.now a.frame a.mode a.fronts a.pieces.now a.errors.now c.requires.1 c.requires.0.text u)

pub returns-then-text-reached : goal.returns-then-text-reached
returns-then-text-reached c =
    let a = c.args in
    lane_over a.text.now a.frame a.mode a.fronts a.pieces.now a.errors.now c.requires.1 c.requires.0.text c.loop-frame.invariant c.lane_in-stopped.ensures c.if-text-reached.true

pub write_left-step-requires : goal.write_left-step-requires
write_left-step-requires c =
    let a = c.args in
    let ran = c.lane_in-stopped.ensures in (
      c.requires.0,
      standing_next a.text.now a.frame a.mode a.fronts a.pieces.now a.errors.now c.requires.1
          (lane_underway a.text.now a.frame a.mode a.fronts a.pieces.now a.errors.now c.requires.1 c.requires.0.text c.loop-frame.invariant ran),
      lane_left a.text.now a.frame a.mode a.fronts a.pieces.now a.errors.now c.requires.1 c.requires.0.text c.loop-frame.invariant ran c.lane_in-stopped.auto.pieces,
      c.if-text-reached.false,
    )

pub overflow_add-given : goal.overflow_add-given
overflow_add-given c =
    let a = c.args in
    let u = lane_underway a.text.now a.frame a.mode a.fronts a.pieces.now a.errors.now c.requires.1 c.requires.0.text c.loop-frame.invariant c.lane_in-stopped.ensures in
    omega (arith, back_few a.text.now a.frame a.mode a.fronts a.pieces.now a.errors.now c.requires.1 c.requires.0.text u)

pub overflow_add-given-in-loop-frame : goal.overflow_add-given-in-loop-frame
overflow_add-given-in-loop-frame c =
    let a = c.args in
    let ran = c.lane_in-stopped.ensures in
    let u = lane_underway a.text.now a.frame a.mode a.fronts a.pieces.now a.errors.now c.requires.1 c.requires.0.text c.loop-frame.invariant ran in
    omega (arith, back_few a.text.now a.frame a.mode a.fronts a.pieces.now a.errors.now c.requires.1 c.requires.0.text u, c.write_left-step.ensures.given)

pub returns-in_default : goal.returns-in_default
returns-in_default c =
    let a = c.args in
    let ran = c.lane_in-stopped.ensures in
    let u = lane_underway a.text.now a.frame a.mode a.fronts a.pieces.now a.errors.now c.requires.1 c.requires.0.text c.loop-frame.invariant ran in
    underway_over a.text.now a.frame a.mode a.fronts a.pieces.now a.errors.now c.requires.1 u (left_over a.text.now a.frame a.mode _ ran.tried c.write_left-step.ensures) c.in_default.is

pub loop-frame-smaller : goal.loop-frame-smaller
loop-frame-smaller c =
    let a = c.args in
    let ran = c.lane_in-stopped.ensures in
    run_later a.text.now a.frame a.mode ran.way (left_over a.text.now a.frame a.mode _ ran.tried c.write_left-step.ensures) c.in-Some.is

pub loop-frame-preserved : goal.loop-frame-preserved
loop-frame-preserved c =
    let a = c.args in
    let ran = c.lane_in-stopped.ensures in
    let u = lane_underway a.text.now a.frame a.mode a.fronts a.pieces.now a.errors.now c.requires.1 c.requires.0.text c.loop-frame.invariant ran in
    underway_on a.text.now a.frame a.mode a.fronts a.pieces.now a.errors.now c.requires.1 u (left_over a.text.now a.frame a.mode _ ran.tried c.write_left-step.ensures) c.in-Some.is
