-- `export::read_by` meets its contract: a refusal before the text is read leaves all lists; any other call is read by the frame and the mode at
-- hand, at once where no list can be too short.
use mathlib.Core.Path.{refl}
use Rattle.answer.specs.AskedLaws.{asked_small}
use Rattle.words.specs.Calls.{rooms_in}
use Rattle.export.proofs.Listing.{ample, roomy_by}
use Rattle.export.proofs.Calling.{read_refused, read_on}
use Rattle.export.proofs.read_by.Goals as goal

pub returns-in-Err : goal.returns-in-Err
returns-in-Err c = read_refused _ _ _ _ _ _ _ (rw c.in-Err.is at c.opened_by.ensures) c.from.ensures

pub filled-requires : goal.filled-requires
unfolding rooms_in
filled-requires c =
    let s = c.args in
    let x = rw c.in-Ok.is at c.opened_by.ensures in
    let r = c.in-Ok.readable in (
      ample s.text.now r.frame r.mode s.pieces.now s.errors.now s.places.now s.lines.now
          (asked_small s.text.now s.snippet.now s.asked x) refl (c.is_roomy.ensures c.if-is_roomy.true),
      x.readable.chars,
    )

pub returns-then-is_roomy : goal.returns-then-is_roomy
unfolding rooms_in
returns-then-is_roomy c =
    let s = c.args in
    let r = c.in-Ok.readable in
    read_on s.text.now s.snippet.now s.asked s.pieces.now s.errors.now s.places.now s.lines.now (rw c.in-Ok.is at c.opened_by.ensures)
    (roomy_by s.text.now r.frame r.mode s.pieces.now s.errors.now s.places.now s.lines.now refl
    (c.is_roomy.ensures c.if-is_roomy.true) c.filled.ensures)

pub counted-requires : goal.counted-requires
unfolding rooms_in
counted-requires c =
    let s = c.args in
    let x = rw c.in-Ok.is at c.opened_by.ensures in
    (asked_small s.text.now s.snippet.now s.asked x, x.readable.chars, refl)

pub returns-else-is_roomy : goal.returns-else-is_roomy
returns-else-is_roomy c =
    let s = c.args in
    read_on s.text.now s.snippet.now s.asked s.pieces.now s.errors.now s.places.now s.lines.now (rw c.in-Ok.is at c.opened_by.ensures)
    c.counted.ensures
