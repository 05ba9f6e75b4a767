-- `totals::walk_faults` meets its contract. The invariant (`Slotted`): with what the slots from k on have, the totals are as they are to be. The measure is
-- how many slots are left.
use Prim.Native.Nat.{◌-◌}
use Rattle.totals.proofs.Runs.{Slotted}
use Rattle.totals.proofs.walk_faults.Given as goal

abbrev pub invariant-loop-k : goal.invariant-loop-k
invariant-loop-k l = Slotted l.step l.initial.totals l.totals l.k

abbrev pub decreases-loop-k : goal.decreases-loop-k
decreases-loop-k l = 13 - l.k
