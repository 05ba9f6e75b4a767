-- `answer::decide::decide_by` meets its contract: a refusal before the text is read is the answer, and a text without one is decided as its
-- counts say.
use mathlib.Core.Path.{refl}
use Rattle.answer.specs.AskedLaws.{asked_small}
use Rattle.answer.proofs.Decisions.{stays, counts}
use Rattle.answer.proofs.decide.decide_by.Goals as goal

pub counted-requires : goal.counted-requires
counted-requires c =
    let s = c.args in
    let x = rw c.in-Ok.is at c.opened_by.ensures in
    (asked_small s.text.now s.snippet.now s.asked x, x.readable.chars)

pub returns-in-Ok : goal.returns-in-Ok
returns-in-Ok c =
    let s = c.args in
    counts s.text.now s.snippet.now s.asked s.rooms (rw c.in-Ok.is at c.opened_by.ensures) c.counted.ensures

pub returns-in-Err : goal.returns-in-Err
returns-in-Err c =
    let s = c.args in
    stays s.text.now s.snippet.now s.asked s.rooms (rw c.in-Err.is at c.opened_by.ensures) c.from.ensures refl
