-- `words::put_place` meets its contract: four numbers, by what the place is.
use Rattle.words.proofs.put_place.Goals as goal

pub returns-in-Next : goal.returns-in-Next
returns-in-Next c = rw (c.in-Next.is, ← c.low-start.ensures, ← c.low-end.ensures, ← c.low.ensures) c.put4.ensures

pub returns-in-At : goal.returns-in-At
returns-in-At c = rw (c.in-At.is, ← c.low-start.ensures, ← c.low-end.ensures, ← c.numeral_word.ensures) c.put4-in-At.ensures

pub returns-in-Named : goal.returns-in-Named
returns-in-Named c = rw (c.in-Named.is, ← c.low-start.ensures, ← c.low-end.ensures, ← c.low-in-Named.ensures, ← c.low-in-Named-2.ensures) c.put4-in-Named.ensures
