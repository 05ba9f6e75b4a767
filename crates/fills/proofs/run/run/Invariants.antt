-- `fills::run::run` meets its contract. The invariant: with the pieces and the records of the steps left both lists are as they are to be.
-- The measure is what is left of the text, since each step passes a byte.
use Prim.Native.Nat.{◌-◌}
use lib.ListN.{length}
use Rattle.fills.proofs.Running.{Underway}
use Rattle.fills.proofs.run.run.Given as goal

abbrev pub invariant-loop-frame : goal.invariant-loop-frame
invariant-loop-frame l =
    Underway l.text l.frame l.mode l.fronts l.initial.pieces l.initial.errors l.pieces l.errors l.state l.extent l.given

abbrev pub decreases-loop-frame : goal.decreases-loop-frame
decreases-loop-frame l = length l.text - l.state.at.0
