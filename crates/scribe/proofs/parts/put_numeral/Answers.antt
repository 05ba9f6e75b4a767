-- `scribe::parts::put_numeral` meets its contract, by whether it is within range.
use Rattle.pen.specs.PenLaws.{laid_none}
use Rattle.scribe.proofs.parts.put_numeral.Goals as goal

pub put_number-requires : goal.put_number-requires
put_number-requires c = rw c.in-Within.is at c.requires

pub returns-in-Over : goal.returns-in-Over
returns-in-Over c = rw c.in-Over.is (laid_none _ _)

pub returns-in-Within : goal.returns-in-Within
returns-in-Within c = rw c.in-Within.is c.put_number.ensures
