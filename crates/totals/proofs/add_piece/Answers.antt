-- `totals::add_piece` meets its contract: by the step; a placeholder counts in its place's line, then its star does.
use mathlib.Core.Path.{sym}
use mathlib.Core.List.{[], ◌∷◌}
use native.Mathlib.Omega.{arith}
use Rattle.reading.specs.Lists.{gather}
use Rattle.seasons.specs.TotalLaws.{added_none}
use Rattle.totals.proofs.Rooms.{room_fewer, room_added}
use Rattle.totals.proofs.Runs.{placeholder_counted}
use Rattle.totals.proofs.add_piece.Goals as goal

pub count_in-requires : goal.count_in-requires
count_in-requires c = room_fewer 1 2 c.args.totals.now (omega arith) c.requires

pub count_in-requires-in-Placeholder : goal.count_in-requires-in-Placeholder
count_in-requires-in-Placeholder c = room_fewer 1 2 c.args.totals.now (omega arith) c.requires

pub add_star-requires : goal.add_star-requires
add_star-requires c =
    room_added 1 2 c.args.totals.now (c.place_line.result ∷ []) (omega arith) c.count_in-in-Placeholder.ensures c.requires

pub returns-in-End : goal.returns-in-End
unfolding gather
returns-in-End c = rw c.in-End.is (sym (added_none 0 _))

pub returns-in-Stop : goal.returns-in-Stop
unfolding gather
returns-in-Stop c = rw c.in-Stop.is (sym (added_none 0 _))

pub returns-in-Literal : goal.returns-in-Literal
unfolding gather
returns-in-Literal c = rw c.in-Literal.is c.count_in.ensures

pub returns-in-Placeholder : goal.returns-in-Placeholder
returns-in-Placeholder c =
    rw c.in-Placeholder.is
    (placeholder_counted c.in-Placeholder.read c.args.totals.now c.place_line.ensures c.count_in-in-Placeholder.ensures c.add_star.ensures)
