-- `writing::put_step` meets its contract: each kind of step, its piece and its records.
use native.Mathlib.Omega.{arith}
use Rattle.writing.proofs.Stepping.{stepped_end, stepped_stop, literal_room, stepped_literal, argument_room, stepped_placeholder}
use Rattle.writing.proofs.put_step.Goals as goal

pub put_literal-requires : goal.put_literal-requires
put_literal-requires c =
    let a = c.args in
    literal_room a.text.now a.frame (rw c.in-Literal.is at c.requires.1)

pub put_argument-requires : goal.put_argument-requires
put_argument-requires c =
    let a = c.args in
    argument_room a.text.now a.frame (rw c.in-Placeholder.is at c.requires.1)

pub put_faults-requires-in-Placeholder : goal.put_faults-requires-in-Placeholder
put_faults-requires-in-Placeholder c =
    (c.requires.0, rw (← c.in-Placeholder.is) c.requires.1.errors)

pub one_more-requires-in-Placeholder : goal.one_more-requires-in-Placeholder
one_more-requires-in-Placeholder c =
    let a = c.args in
    let room = argument_room a.text.now a.frame (rw c.in-Placeholder.is at c.requires.1) in
    omega (arith, room, c.well_formed, c.put_faults-in-Placeholder.ensures.pieces)

pub returns-in-End : goal.returns-in-End
returns-in-End c =
    let a = c.args in
    rw c.in-End.is (stepped_end a.text.now a.frame)

pub returns-in-Stop : goal.returns-in-Stop
returns-in-Stop c =
    let a = c.args in
    stepped_stop a.text.now a.frame c.in-Stop.is c.put_faults.ensures

pub returns-in-Literal : goal.returns-in-Literal
returns-in-Literal c =
    let a = c.args in
    rw c.in-Literal.is (stepped_literal a.text.now a.frame c.one_more.ensures c.put_literal.ensures)

pub returns-in-Placeholder : goal.returns-in-Placeholder
returns-in-Placeholder c =
    let a = c.args in
    rw c.in-Placeholder.is
    (stepped_placeholder a.text.now a.frame c.put_argument.ensures c.put_faults-in-Placeholder.ensures c.one_more-in-Placeholder.ensures)
