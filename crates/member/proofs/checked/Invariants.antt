-- `member::checked` meets its contract. The invariant (`Walk`): what is met is what there is in the pieces so far, the pieces to come make them those
-- of the text, and the faults to come are those of the text.
use Rattle.std.specs.Prelude.{◌≡◌, ℕ, ◌+◌}
use Rattle.member.proofs.Meeting.{Walk}
use Rattle.member.proofs.checked.Given as goal

abbrev pub invariant-loop : goal.invariant-loop
invariant-loop l = (left : ℕ) × (l.counter + left ≡ l.end) × Walk l.text l.frame left l.state l.met
