-- `export::counted` meets its contract: where the counts leave room each list is filled, and where they do not none is touched.
use mathlib.Core.Path.{ap, refl}
use Rattle.reading.specs.declared.Answer.{Answer}
use Rattle.answer.specs.DecisionLaws.{never_zero}
use Rattle.export.proofs.Listing.{Ready, ready, refused_by_lem, done_by}
use Rattle.export.proofs.counted.Goals.{In-Ok}
use Rattle.export.proofs.counted.Goals as goal

-- where nothing is refused each list has room
room : (c : In-Ok) →
    let s = c.args in
    Ready s.text.now s.frame s.mode s.pieces.now s.errors.now s.places.now s.lines.now
room c = ready _ _ _ _ _ _ _ (ap (λ (y : Answer). y.number) c.in-Ok.ensures) c.tally-told.ensures.0 c.requires.2 refl

pub fill-requires : goal.fill-requires
fill-requires c = let r = room (goal.at.fill-requires c).In-Ok in (c.requires.0, r.pieces, r.errors)

pub fill_places-requires : goal.fill_places-requires
fill_places-requires c = (c.requires.0, (room (goal.at.fill_places-requires c).In-Ok).places)

pub fill_lines-requires : goal.fill_lines-requires
fill_lines-requires c = (c.requires.0, (room (goal.at.fill_lines-requires c).In-Ok).lines)

pub returns-in-Ok : goal.returns-in-Ok
returns-in-Ok c =
    let told = c.tally-told.ensures in
    done_by _ _ _ _ _ _ _ (ap (λ (y : Answer). y.number) c.in-Ok.ensures) told.0 c.requires.2 told.1 told.2 refl
    c.fill.ensures.wrote_pieces c.fill.ensures.wrote_errors c.fill_places.ensures c.fill_lines.ensures

pub returns-in-Err : goal.returns-in-Err
returns-in-Err c =
    rw (c.from.ensures, ap (λ (y : Answer). y.place) c.in-Err.ensures)
    (refused_by_lem _ _ _ _ _ _ _ (ap (λ (y : Answer). y.number) c.in-Err.ensures) c.tally-told.ensures.0 c.requires.2 (never_zero c.in-Err.refusal))
