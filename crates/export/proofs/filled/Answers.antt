-- `export::filled` meets its contract: a record a byte is room enough, what is no source literal has no spans, and the moves are told.
use Rattle.export.proofs.Listing.{ample_room, filled_is, given_small}
use Rattle.export.proofs.filled.Goals as goal

pub fill-got-requires : goal.fill-got-requires
fill-got-requires c = ample_room _ _ _ c.requires.0

pub moves_told-requires : goal.moves_told-requires
moves_told-requires c =
    let p = c.requires in
    (p.1, p.0.small.text, given_small _ _ _ p.0.small.text c.fill-got.ensures.given)

pub returns : goal.returns
returns c = filled_is _ _ _ c.requires.0.literal c.fill-got.ensures c.moves_told.ensures
