-- `fills::lane::write_open` meets its contract: what is told is written and needs its records, and anything else is the plain step.
use native.Mathlib.Omega.{arith}
use Rattle.fills.proofs.Stopping.{one_fits, told_here, open_told}
use Rattle.fills.proofs.lane.write_open.Goals as goal

pub write_placeholder-requires : goal.write_placeholder-requires
write_placeholder-requires c =
    let p = c.requires in
    let a = c.args in
    (p.0, p.3.within, p.1, one_fits a.text.now a.frame a.state p.3 p.2)

pub write_step-requires : goal.write_step-requires
write_step-requires c =
    let p = c.requires in
    let untold = rw c.in_default.is at c.write_placeholder.ensures in
    rw (c.whole.ensures, c.own_frame.ensures, c.own_state.ensures, c.own_extent.ensures, untold) (p.0, p.1, p.2)

pub returns-in_default : goal.returns-in_default
returns-in_default c =
    let untold = rw c.in_default.is at c.write_placeholder.ensures in
    rw (c.whole.ensures, c.own_frame.ensures, c.own_state.ensures, c.own_extent.ensures, untold) at c.write_step.ensures

pub put_wrongs-requires : goal.put_wrongs-requires
put_wrongs-requires c =
    let p = c.requires in
    let a = c.args in
    let w = c.in-Some.ensures in (
      p.0,
      omega (arith, p.0.text, p.3.within),
      omega (arith, p.0.text, w.tells.reached),
      told_here a.text.now a.frame a.state p.3 p.2 w,
    )

pub one_more-requires : goal.one_more-requires
one_more-requires c =
    let p = c.requires in
    let a = c.args in
    omega (arith, one_fits a.text.now a.frame a.state p.3 p.2, c.put_wrongs.ensures.pieces, c.well_formed)

pub returns : goal.returns
returns c =
    let p = c.requires in
    let a = c.args in
    let w = c.in-Some.ensures in
    open_told a.text.now a.frame a.state p.3 p.2 w c.after_told.ensures c.put_wrongs.ensures c.one_more.ensures
