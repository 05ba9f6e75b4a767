-- `member::met_piece` meets its contract: it is the definition, field by field.
use Rattle.member.specs.Meetings.{met_after}
use Rattle.member.proofs.met_piece.Goals as goal

pub returns : goal.returns
unfolding met_after
returns c = rw (← c.first.ensures, ← c.first-2.ensures, ← c.first-3.ensures, ← c.again.ensures, ← c.first-4.ensures)
