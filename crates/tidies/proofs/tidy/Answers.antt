-- `tidies::tidy` meets its contract: a refusal before the text is read, then errors, then the room for an accepted text's plain form.
use Rattle.answer.specs.DecisionLaws.{opened_small}
use Rattle.tidies.proofs.PlacedLaws.{early, faulty, is_ready, by_room}
use Rattle.tidies.proofs.tidy.Goals as goal

pub tally-told-requires : goal.tally-told-requires
tally-told-requires c =
    let opened = rw c.in-Ok.is at c.opened.ensures in
    (opened_small _ _ _ opened, opened.readable.chars)

pub returns-then-told-gt-NO_ERROR : goal.returns-then-told-gt-NO_ERROR
returns-then-told-gt-NO_ERROR c =
    faulty _ _ (rw c.in-Ok.is at c.opened.ensures) c.tally-told.ensures.0 c.if-told-gt-NO_ERROR.true c.refused.ensures

pub placed-requires : goal.placed-requires
placed-requires c = is_ready _ _ (rw c.in-Ok.is at c.opened.ensures) c.tally-told.ensures.0 c.if-told-gt-NO_ERROR.false

pub returns-else-told-gt-NO_ERROR : goal.returns-else-told-gt-NO_ERROR
returns-else-told-gt-NO_ERROR c =
    by_room _ _ (rw c.in-Ok.is at c.opened.ensures) c.tally-told.ensures.0 c.if-told-gt-NO_ERROR.false c.tally-told.ensures.1
    c.placed.ensures

pub returns-in-Err : goal.returns-in-Err
returns-in-Err c = early _ _ (rw c.in-Err.is at c.opened.ensures) (rw (c.from.ensures, c.place.ensures) at c.refused-in-Err.ensures)
