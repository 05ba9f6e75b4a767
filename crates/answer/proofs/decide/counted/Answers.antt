-- `answer::decide::counted` meets its contract: the counts, the arguments and the moves are the definitions', and the room is asked of the counts.
use mathlib.Core.Path.{refl, ap}
use Rattle.reading.specs.declared.Answer.{Answer}
use Rattle.answer.specs.DecisionLaws.{never_zero}
use Rattle.answer.proofs.Decisions.{roomy, roomless}
use Rattle.answer.proofs.decide.counted.Goals as goal

pub returns-in-Ok : goal.returns-in-Ok
returns-in-Ok c =
    let told = c.tally-told.ensures in
    let z = ap (λ (y : Answer). y.number) (rw told.0 at c.in-Ok.ensures) in
    record { answer = rw (told.0, told.1, told.2) (roomy _ _ _ z); done = (refl, refl) }

pub returns-in-Err : goal.returns-in-Err
returns-in-Err c =
    let told = c.tally-told.ensures in
    let k = rw told.0 at c.in-Err.ensures in
    rw c.from.ensures (record { answer = rw told.0 (roomless _ _ _ _ k); done = never_zero c.in-Err.refusal })
