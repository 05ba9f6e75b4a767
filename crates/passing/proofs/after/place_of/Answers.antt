-- `passing::after::place_of` meets its contract: it is the definition.
use Rattle.quick.specs.Tellings.{found_of}
use Rattle.passing.specs.After.{place_of}
use Rattle.passing.proofs.after.place_of.Goals as goal

pub returns-in-Nothing : goal.returns-in-Nothing
unfolding place_of found_of
returns-in-Nothing c = rw c.in-Nothing.is

pub returns-in-Number : goal.returns-in-Number
unfolding place_of found_of
returns-in-Number c = rw c.in-Number.is

pub returns-in-Word : goal.returns-in-Word
unfolding place_of found_of
returns-in-Word c = rw c.in-Word.is
