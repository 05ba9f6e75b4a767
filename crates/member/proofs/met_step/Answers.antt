-- `member::met_step` meets its contract: by the step; a literal is of no sort, a placeholder of those that its place and counts say.
use Rattle.member.proofs.met_step.Goals as goal

pub returns-in-End : goal.returns-in-End
returns-in-End c = rw c.in-End.is

pub returns-in-Stop : goal.returns-in-Stop
returns-in-Stop c = rw c.in-Stop.is

pub returns-in-Literal : goal.returns-in-Literal
returns-in-Literal c = rw (c.in-Literal.is, ← c.no_sorts.ensures, ← c.met_piece.ensures)

pub returns-in-Placeholder : goal.returns-in-Placeholder
returns-in-Placeholder c = rw (c.in-Placeholder.is, ← c.takes-taken.ensures, ← c.sorts_at.ensures, ← c.met_piece-in-Placeholder.ensures)
