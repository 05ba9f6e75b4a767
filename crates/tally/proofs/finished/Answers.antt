-- `tally::finished` meets its contract: the moves are told of where the state stands.
use Rattle.tally.proofs.finished.Goals as goal

pub returns : goal.returns
returns c = rw (← c.moves_told.ensures)
