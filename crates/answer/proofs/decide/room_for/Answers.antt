-- `answer::decide::room_for` meets its contract: the tests are the definition's, in its order.
use borrow.Author.Tests.{lt-ltb, le-ltb}
use Rattle.utf8.specs.Choice.{pick}
use Rattle.laws.specs.Deciding.{room_for}
use Rattle.answer.proofs.decide.room_for.Goals as goal

pub returns-then-rooms-counts : goal.returns-then-rooms-counts
unfolding room_for pick
returns-then-rooms-counts c = rw (lt-ltb _ _ c.if-rooms-counts.true)

pub returns-then-rooms-counts-2 : goal.returns-then-rooms-counts-2
unfolding room_for pick
returns-then-rooms-counts-2 c = rw (le-ltb _ _ c.if-rooms-counts.false, lt-ltb _ _ c.if-rooms-counts-2.true)

pub returns-then-rooms-counts-3 : goal.returns-then-rooms-counts-3
unfolding room_for pick
returns-then-rooms-counts-3 c = rw (le-ltb _ _ c.if-rooms-counts.false, le-ltb _ _ c.if-rooms-counts-2.false, lt-ltb _ _ c.if-rooms-counts-3.true)

pub returns-then-rooms-counts-4 : goal.returns-then-rooms-counts-4
unfolding room_for pick
returns-then-rooms-counts-4 c = rw (le-ltb _ _ c.if-rooms-counts.false, le-ltb _ _ c.if-rooms-counts-2.false, le-ltb _ _ c.if-rooms-counts-3.false, lt-ltb _ _ c.if-rooms-counts-4.true)

pub returns : goal.returns
unfolding room_for pick
returns c = rw (le-ltb _ _ c.if-rooms-counts.false, le-ltb _ _ c.if-rooms-counts-2.false, le-ltb _ _ c.if-rooms-counts-3.false, le-ltb _ _ c.if-rooms-counts-4.false)
