-- `member::again` meets its contract: where there is a first one, the next is the first behind it.
use borrow.Author.Tests.{lt-ltb, le-ltb}
use Rattle.utf8.specs.Choice.{pick}
use Rattle.member.specs.Meetings.{again_after}
use Rattle.member.proofs.again.Goals as goal

pub returns-then-found-n : goal.returns-then-found-n
unfolding again_after pick
returns-then-found-n c = rw (lt-ltb _ _ c.if-found-n.true, ← c.first.ensures)

pub returns : goal.returns
unfolding again_after pick
returns c = rw (le-ltb _ _ c.if-found-n.false)
