-- `scribe::parts::put_fill` meets its contract, by whether there is one.
use Rattle.pen.specs.PenLaws.{laid_none}
use Rattle.scribe.proofs.parts.put_fill.Goals as goal

pub put_char-requires : goal.put_char-requires
put_char-requires c = rw c.in-Some.is at c.requires

pub returns-in-None : goal.returns-in-None
returns-in-None c = rw c.in-None.is (laid_none _ _)

pub returns-in-Some : goal.returns-in-Some
returns-in-Some c = rw c.in-Some.is c.put_char.ensures
