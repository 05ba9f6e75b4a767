-- `fills::lane::write_left` meets its contract: a placeholder of Format mode is told where it can be; anything else is the plain step.
use Rattle.fills.proofs.lane.write_left.Goals as goal

pub write_open-requires : goal.write_open-requires
write_open-requires c =
    let p = c.requires in
    let o = c.opens.ensures c.if-opens.true in
    (p.0, p.1, rw o.0 at p.2, o.1)

pub returns-then-opens : goal.returns-then-opens
returns-then-opens c = rw (c.opens.ensures c.if-opens.true).0 c.write_open.ensures

pub write_step-requires : goal.write_step-requires
write_step-requires c =
    let p = c.requires in
    rw (c.whole.ensures, c.own_frame.ensures, c.own_state.ensures, c.own_extent.ensures) (p.0, p.1, p.2)

pub returns : goal.returns
returns c = rw (c.whole.ensures, c.own_frame.ensures, c.own_state.ensures, c.own_extent.ensures) at c.write_step.ensures
