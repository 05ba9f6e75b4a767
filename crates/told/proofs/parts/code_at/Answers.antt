-- `told::parts::code_at` meets its contract: a character's code, and 0 at the end.
use Rattle.told.proofs.parts.code_at.Goals as goal

pub returns-in-Some : goal.returns-in-Some
returns-in-Some c = rw (← c.peek.ensures, c.in-Some.is)

pub returns-in-None : goal.returns-in-None
returns-in-None c = rw (← c.peek.ensures, c.in-None.is)
