-- `placeholder::position::is_r` meets its contract: it is the definition, an `r` that ends where the word does.
use Rattle.utf8.specs.Choice.{pick}
use Rattle.placeholder.specs.Places.{is_r}
use Rattle.placeholder.proofs.position.is_r.Goals as goal

pub returns-then-letter : goal.returns-then-letter
unfolding is_r pick
returns-then-letter c =
    rw (← c.consume-letter.ensures, c.if-letter.true)

pub returns-else-letter : goal.returns-else-letter
unfolding is_r pick
returns-else-letter c = rw (← c.consume-letter.ensures, c.if-letter.false)
