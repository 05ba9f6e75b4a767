-- `faults::first_wrong` meets its contract. A step with nothing wrong is not walked over. The invariant: the slots from the first to k are clean.
use mathlib.Core.Path.{◌≡◌}
use lib.ListN.{drop}
use Rattle.reading.specs.Faults.{step_slots, wrong}
use Rattle.faults.proofs.first_wrong.Given as goal

abbrev pub invariant-loop-k : goal.invariant-loop-k
invariant-loop-k l = (wrong (drop l.slot (step_slots l.step)) ≡ wrong (drop l.k (step_slots l.step)))
