-- `words::place_tag` meets its contract: a number has the tag that its own case gives.
use Rattle.words.proofs.place_tag.Goals as goal

pub returns-in-At : goal.returns-in-At
returns-in-At c = rw c.in-At.is c.numeral_tag.ensures
