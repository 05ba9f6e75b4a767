-- `wrongs::hint_of` meets its contract: it is the definition, sign by sign.
use Rattle.wrongs.proofs.hint_of.Goals as goal

pub returns-in-Silent : goal.returns-in-Silent
returns-in-Silent c = rw c.in-Silent.is

pub returns-in-Misplaced : goal.returns-in-Misplaced
returns-in-Misplaced c = rw c.in-Misplaced.is

pub returns-in-Comma : goal.returns-in-Comma
returns-in-Comma c = rw c.in-Comma.is

pub returns-in-Plus : goal.returns-in-Plus
returns-in-Plus c = rw c.in-Plus.is

pub returns-in-Equals : goal.returns-in-Equals
returns-in-Equals c = rw c.in-Equals.is
