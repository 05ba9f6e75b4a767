-- `member::verdict_of` meets its contract: the tests are the definition's, in order.
use borrow.Author.Tests.{lt-ltb, le-ltb, eq-eqb, ne_eqb}
use Rattle.utf8.specs.Choice.{pick}
use Rattle.member.specs.Meetings.{told}
use Rattle.member.proofs.verdict_of.Goals as goal

pub returns-then-met : goal.returns-then-met
unfolding told pick
returns-then-met c = rw (lt-ltb _ _ c.if-met.true)

pub returns-then-met-2 : goal.returns-then-met-2
unfolding told pick
returns-then-met-2 c = rw (le-ltb _ _ c.if-met.false, lt-ltb _ _ c.if-met-2.true)

pub returns-then-met-3 : goal.returns-then-met-3
unfolding told pick
returns-then-met-3 c = rw (le-ltb _ _ c.if-met.false, le-ltb _ _ c.if-met-2.false, eq-eqb _ _ c.if-met-3.true)

pub returns-then-met-4 : goal.returns-then-met-4
unfolding told pick
returns-then-met-4 c = rw (le-ltb _ _ c.if-met.false, le-ltb _ _ c.if-met-2.false, ne_eqb _ _ c.if-met-3.false, lt-ltb _ _ c.if-met-4.true)

pub returns-then-met-5 : goal.returns-then-met-5
unfolding told pick
returns-then-met-5 c = rw (le-ltb _ _ c.if-met.false, le-ltb _ _ c.if-met-2.false, ne_eqb _ _ c.if-met-3.false, le-ltb _ _ c.if-met-4.false, lt-ltb _ _ c.if-met-5.true)

pub returns : goal.returns
unfolding told pick
returns c = rw (le-ltb _ _ c.if-met.false, le-ltb _ _ c.if-met-2.false, ne_eqb _ _ c.if-met-3.false, le-ltb _ _ c.if-met-4.false, le-ltb _ _ c.if-met-5.false)
