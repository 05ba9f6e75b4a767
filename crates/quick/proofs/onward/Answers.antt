-- `quick::onward` meets its contract: it is the definition, sign by sign.
use Rattle.utf8.specs.Choice.{pick}
use Rattle.quick.specs.PartsTold.{onward_of}
use Rattle.quick.proofs.onward.Goals as goal

pub returns-then-closed : goal.returns-then-closed
unfolding onward_of pick
returns-then-closed c = rw c.if-closed.true

pub returns-in-Silent : goal.returns-in-Silent
unfolding onward_of pick
returns-in-Silent c = rw (c.if-closed.false, c.in-Silent.is)

pub returns-in-Misplaced : goal.returns-in-Misplaced
unfolding onward_of pick
returns-in-Misplaced c = rw (c.if-closed.false, c.in-Misplaced.is)

pub returns-in-Comma : goal.returns-in-Comma
unfolding onward_of pick
returns-in-Comma c = rw (c.if-closed.false, c.in-Comma.is)

pub returns-in-Plus : goal.returns-in-Plus
unfolding onward_of pick
returns-in-Plus c = rw (c.if-closed.false, c.in-Plus.is)

pub returns-in-Equals : goal.returns-in-Equals
unfolding onward_of pick
returns-in-Equals c = rw (c.if-closed.false, c.in-Equals.is)
