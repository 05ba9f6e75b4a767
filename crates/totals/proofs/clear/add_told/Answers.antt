-- `totals::clear::add_told` meets its contract: a place counts in its line, then a star in its own.
use borrow.Author.Tests.{not-true, not-false}
use mathlib.Core.List.{[], ◌∷◌}
use native.Mathlib.Omega.{arith}
use Rattle.totals.proofs.Rooms.{room_fewer, room_added}
use Rattle.passing.proofs.Afters.{not_star}
use Rattle.totals.proofs.Clears.{told_bare, told_starless, told_starred}
use Rattle.totals.proofs.clear.add_told.Goals as goal

pub count_in-requires : goal.count_in-requires
count_in-requires c =
    room_fewer 1 2 c.args.totals.now (omega arith) c.requires.1

pub returns-then-not-told : goal.returns-then-not-told
returns-then-not-told c =
    told_bare _ _ c.args.told _ c.after_star.ensures c.place_of-place.ensures c.place_line.ensures c.count_in.ensures
    (not-true _ c.if-not-told.true)

pub count_in-requires-in-Star : goal.count_in-requires-in-Star
count_in-requires-in-Star c =
    room_added 1 2 c.args.totals.now (c.place_line.result ∷ []) (omega arith) c.count_in.ensures c.requires.1

pub returns-in-Star : goal.returns-in-Star
returns-in-Star c =
    told_starred _ _ c.args.told _ c.after_star.ensures c.place_of-place.ensures c.place_line.ensures c.count_in.ensures
    (not-false _ c.if-not-told.false) (rw c.in-Star.is) c.count_in-in-Star.ensures

pub returns-in_default : goal.returns-in_default
returns-in_default c =
    told_starless _ _ c.args.told _ c.after_star.ensures c.place_of-place.ensures c.place_line.ensures c.count_in.ensures
    (not-false _ c.if-not-told.false) (not_star _ c.in_default.not-Star)
