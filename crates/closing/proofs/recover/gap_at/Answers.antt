-- `closing::recover::gap_at` meets its contract: it is the definition, within the text and at its end.
use borrow.Author.Tests.{lt-ltb, le-ltb}
use Rattle.utf8.specs.Choice.{pick}
use Rattle.closing.specs.Recovery.{gap_at}
use Rattle.closing.proofs.recover.gap_at.Goals as goal

pub returns-then-at-text : goal.returns-then-at-text
unfolding pick gap_at
returns-then-at-text c = rw (lt-ltb _ _ c.if-at-text.true)

pub returns-else-at-text : goal.returns-else-at-text
unfolding pick gap_at
returns-else-at-text c = rw (le-ltb _ _ c.if-at-text.false)
