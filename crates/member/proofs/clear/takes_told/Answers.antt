-- `member::clear::takes_told` meets its contract: it is the definition, a test at a time.
use borrow.Author.Tests.{not-true, not-false}
use Rattle.utf8.specs.Choice.{pick}
use Rattle.member.specs.Meetings.{taken_told}
use Rattle.member.proofs.clear.takes_told.Goals as goal

pub returns-then-not-told : goal.returns-then-not-told
unfolding taken_told pick
returns-then-not-told c = rw (not-true c.args.told.colon c.if-not-told.true)

pub returns-then-kind_taken : goal.returns-then-kind_taken
unfolding taken_told pick
returns-then-kind_taken c =
    rw (not-false c.args.told.colon c.if-not-told.false, ← c.kind_taken.ensures, c.if-kind_taken.true)

pub returns-else-kind_taken : goal.returns-else-kind_taken
unfolding taken_told pick
returns-else-kind_taken c =
    rw (not-false c.args.told.colon c.if-not-told.false, ← c.kind_taken.ensures, c.if-kind_taken.false) c.kind_taken-else-kind_taken.ensures
