-- `scribe::parts::put_mark` meets its contract, by whether there is one.
use Rattle.pen.specs.PenLaws.{laid_none}
use Rattle.scribe.proofs.parts.put_mark.Goals as goal

pub put_byte-requires : goal.put_byte-requires
put_byte-requires c = rw c.in-Some.is at c.requires

pub returns-in-None : goal.returns-in-None
returns-in-None c = rw c.in-None.is (laid_none _ _)

pub returns-in-Some : goal.returns-in-Some
returns-in-Some c = rw c.in-Some.is c.put_byte.ensures
