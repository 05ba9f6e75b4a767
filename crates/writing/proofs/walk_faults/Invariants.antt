-- `writing::walk_faults` meets its contract. The invariant: the faults before slot k are noted. The measure is how many slots are left.
use Prim.Native.Nat.{◌-◌}
use Rattle.writing.proofs.Walking.{Walk}
use Rattle.writing.proofs.walk_faults.Given as goal

abbrev pub invariant-loop-k : goal.invariant-loop-k
invariant-loop-k l = Walk l.text l.frame l.step l.initial.after l.initial.errors l.k l.after l.errors

abbrev pub decreases-loop-k : goal.decreases-loop-k
decreases-loop-k l = 13 - l.k
