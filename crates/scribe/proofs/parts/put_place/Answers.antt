-- `scribe::parts::put_place` meets its contract, by what the place is.
use Rattle.pen.specs.PenLaws.{laid_none}
use Rattle.scribe.proofs.parts.put_place.Goals as goal

pub put_numeral-requires : goal.put_numeral-requires
put_numeral-requires c = rw c.in-At.is at c.requires

pub put_range-requires : goal.put_range-requires
put_range-requires c = rw c.in-Named.is at c.requires

pub returns-in-Next : goal.returns-in-Next
returns-in-Next c = rw c.in-Next.is (laid_none _ _)

pub returns-in-At : goal.returns-in-At
returns-in-At c = rw c.in-At.is c.put_numeral.ensures

pub returns-in-Named : goal.returns-in-Named
returns-in-Named c = rw c.in-Named.is c.put_range.ensures
