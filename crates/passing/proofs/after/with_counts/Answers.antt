-- `passing::after::with_counts` meets its contract: without a colon there is no count.
use borrow.Author.Tests.{not-true, not-false}
use Rattle.utf8.specs.Choice.{pick}
use Rattle.passing.specs.After.{with_counts}
use Rattle.passing.proofs.after.with_counts.Goals as goal

pub returns-then-not-told : goal.returns-then-not-told
unfolding with_counts pick
returns-then-not-told c = rw (not-true c.args.told.colon c.if-not-told.true)

pub returns : goal.returns
unfolding with_counts pick
returns c = rw (not-false c.args.told.colon c.if-not-told.false, ← c.with_count-wide.ensures) c.with_count.ensures
