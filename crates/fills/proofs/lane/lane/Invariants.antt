-- `fills::lane::lane` meets its contract. The invariant: the steps so far are passed and their pieces written. The measure is what is left of the text.
use Prim.Native.Nat.{◌-◌}
use lib.ListN.{length}
use Rattle.frame.specs.Places.{place}
use Rattle.reading.specs.Steps.{state_of}
use Rattle.fills.proofs.Ways.{OnWay}
use Rattle.fills.proofs.lane.lane.Given as goal

abbrev pub invariant-loop-step : goal.invariant-loop-step
invariant-loop-step l =
    OnWay l.text l.frame l.mode (state_of (place l.initial.at) l.initial.next l.initial.arguments) l.initial.n l.initial.pieces (state_of (place l.at) l.next l.arguments) l.n l.given l.pieces

abbrev pub decreases-loop-step : goal.decreases-loop-step
decreases-loop-step l = length l.text - l.at
