-- `turns::next_fault` meets its contract. The invariant: the faults from the slot at hand on are those from the first slot on.
-- The measure is how many steps are left: a step with no further fault is passed.
use Prim.Native.Nat.{◌≤◌}
use mathlib.Core.Path.{◌≡◌}
use Rattle.turns.specs.Turns.{Fresh, faults_at}
use Rattle.turns.proofs.next_fault.Given as goal

abbrev pub invariant-loop-on : goal.invariant-loop-on
invariant-loop-on l =
    (faults_at l.text l.frame l.mode l.on l.from ≡ faults_at l.text l.frame l.mode l.initial.on l.initial.from) × Fresh l.on × (l.from ≤ 13)

abbrev pub decreases-loop-on : goal.decreases-loop-on
decreases-loop-on l = l.on.left
