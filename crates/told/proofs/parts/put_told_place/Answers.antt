-- `told::parts::put_told_place` meets its contract: four numbers, by the place's kind.
use Rattle.quick.specs.Tellings.{found_of}
use Rattle.passing.specs.After.{place_of}
use Rattle.told.proofs.parts.put_told_place.Goals as goal

pub returns-in-Nothing : goal.returns-in-Nothing
unfolding place_of found_of
returns-in-Nothing c = rw (c.in-Nothing.is, ← c.low-start.ensures, ← c.low-end.ensures, ← c.low.ensures) c.put4.ensures

pub returns-in-Number : goal.returns-in-Number
unfolding place_of found_of
returns-in-Number c = rw (c.in-Number.is, ← c.low-start.ensures, ← c.low-end.ensures) c.put4-in-Number.ensures

pub returns-in-Word : goal.returns-in-Word
unfolding place_of found_of
returns-in-Word c = rw (c.in-Word.is, ← c.low-start.ensures, ← c.low-end.ensures, ← c.low-in-Word.ensures, ← c.low-in-Word-2.ensures) c.put4-in-Word.ensures
