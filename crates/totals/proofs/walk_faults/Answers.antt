-- `totals::walk_faults` meets its contract. The invariant (`Slotted`): with what the slots from k on have, the totals are as they are to be. The measure is
-- how many slots are left.
use Prim.Native.Nat.{◌-◌}
use native.Mathlib.Omega.{arith}
use Rattle.totals.proofs.Rooms.{room_fewer}
use Rattle.totals.proofs.Runs.{kind_small, fault_counted, slotted_first, slotted_next, slotted_last, none_told}
use Rattle.totals.proofs.walk_faults.Goals as goal

pub loop-k-init : goal.loop-k-init
loop-k-init c = slotted_first _ _ c.first_wrong-first.ensures c.requires.1

pub fault_at-fault-requires : goal.fault_at-fault-requires
fault_at-fault-requires c = tt

pub record_of-record-requires : goal.record_of-record-requires
record_of-record-requires c = c.requires.0

pub overflow_cast-record : goal.overflow_cast-record
overflow_cast-record c = omega (arith, kind_small c.args.text.now c.args.frame 0 c.fault_at-fault.result c.record_of-record.ensures)

pub overflow_add-record : goal.overflow_add-record
overflow_add-record c = omega (arith, kind_small c.args.text.now c.args.frame 0 c.fault_at-fault.result c.record_of-record.ensures)

pub count_in-requires : goal.count_in-requires
count_in-requires c = room_fewer 1 (13 - c.loop-k.k) c.loop-k.totals (omega (arith, c.loop-k-test.true)) c.loop-k.invariant.room

pub overflow_add-k : goal.overflow_add-k
overflow_add-k c = omega (arith, c.loop-k-test.true)

pub first_wrong-k-requires : goal.first_wrong-k-requires
first_wrong-k-requires c = omega (arith, c.loop-k-test.true)

pub loop-k-smaller : goal.loop-k-smaller
loop-k-smaller c = omega (arith, c.loop-k-test.true, c.first_wrong-k.ensures.from)

pub loop-k-preserved : goal.loop-k-preserved
loop-k-preserved c =
    let a = c.args in
    let l = c.loop-k in
    slotted_next a.step _ l.totals l.k c.loop-k-test.true l.invariant
    (fault_counted a.text.now a.frame a.step l.k l.totals c.fault_at-fault.ensures c.record_of-record.ensures c.count_in.ensures)
    c.first_wrong-k.ensures

pub returns : goal.returns
returns c = (slotted_last _ _ _ _ c.loop-k-test.false c.loop-k.invariant, none_told _ c.first_wrong-first.ensures)
