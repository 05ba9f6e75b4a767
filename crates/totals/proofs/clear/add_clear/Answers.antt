-- `totals::clear::add_clear` meets its contract: a placeholder, literal text, or neither.
use native.Mathlib.Omega.{arith}
use Rattle.totals.proofs.Rooms.{room_fewer}
use Rattle.totals.proofs.Clears.{text_counted}
use Rattle.totals.proofs.clear.add_clear.Goals as goal

pub add_open-requires : goal.add_open-requires
add_open-requires c =
    (c.requires.0, c.requires.1, c.is_open.ensures c.if-is_open.true, c.requires.2)

pub count_in-requires : goal.count_in-requires
count_in-requires c =
    room_fewer 1 2 c.args.totals.now (omega arith) c.requires.2

pub returns : goal.returns
returns c = text_counted _ _ _ _ c.in_ok-passed.ensures c.count_in.ensures
