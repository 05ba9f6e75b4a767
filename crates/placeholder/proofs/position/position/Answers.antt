-- `placeholder::position::position` meets its contract: it is the definition by what the digits come to.
use Rattle.placeholder.specs.Places.{place_read}
use Rattle.placeholder.proofs.position.position.Goals as goal

pub returns-in-Some : goal.returns-in-Some
unfolding place_read
returns-in-Some c =
    rw (← c.integer-read.ensures, c.in-Some.is)

pub returns-in-None : goal.returns-in-None
unfolding place_read
returns-in-None c =
    rw (← c.integer-read.ensures, c.in-None.is, ← c.word_place.ensures)
