-- `writing::walk_faults` meets its contract. The invariant: the faults before slot k are noted. The measure is how many slots are left.
use native.Mathlib.Omega.{arith}
use Rattle.writing.proofs.Walking.{walk_first, walk_last, walk_wrong, walk_room, walk_on}
use Rattle.writing.proofs.walk_faults.Goals as goal

pub loop-k-init : goal.loop-k-init
loop-k-init c =
    walk_first c.args.text.now c.args.frame c.requires.1 c.first_wrong-k.ensures

pub put_fault-after-requires : goal.put_fault-after-requires
put_fault-after-requires c =
    let a = c.args in
    let w = c.loop-k.invariant in
    let h = c.loop-k-test.true in
    let e = c.fault_at-fault.ensures in
    (c.requires.0, walk_wrong a.text.now a.frame w h e, walk_room a.text.now a.frame w h e)

pub overflow_add-k : goal.overflow_add-k
overflow_add-k c = omega (arith, c.loop-k-test.true)

pub first_wrong-k-requires-in-loop-k : goal.first_wrong-k-requires-in-loop-k
first_wrong-k-requires-in-loop-k c = omega (arith, c.loop-k-test.true)

pub loop-k-smaller : goal.loop-k-smaller
loop-k-smaller c = omega (arith, c.loop-k-test.true, c.first_wrong-k-in-loop-k.ensures.from)

pub loop-k-preserved : goal.loop-k-preserved
loop-k-preserved c =
    let a = c.args in
    walk_on a.text.now a.frame c.loop-k.invariant c.loop-k-test.true c.fault_at-fault.ensures c.put_fault-after.ensures
    c.first_wrong-k-in-loop-k.ensures

pub returns : goal.returns
returns c =
    let a = c.args in
    walk_last a.text.now a.frame c.loop-k.invariant c.loop-k-test.false
