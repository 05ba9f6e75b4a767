-- `member::first` meets its contract: the tests are the definition's, in order.
use borrow.Author.Tests.{lt-ltb, le-ltb}
use Rattle.utf8.specs.Choice.{pick}
use Rattle.member.specs.Meetings.{first_after}
use Rattle.member.proofs.first.Goals as goal

pub returns-then-found-n : goal.returns-then-found-n
unfolding first_after pick
returns-then-found-n c = rw (lt-ltb _ _ c.if-found-n.true)

pub returns-then-here : goal.returns-then-here
unfolding first_after pick
returns-then-here c = rw (le-ltb _ _ c.if-found-n.false, c.if-here.true)

pub returns : goal.returns
unfolding first_after pick
returns c = rw (le-ltb _ _ c.if-found-n.false, c.if-here.false)
