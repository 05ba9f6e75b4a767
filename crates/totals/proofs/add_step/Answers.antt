-- `totals::add_step` meets its contract: a step counts as its piece and then its faults do.
use native.Mathlib.Omega.{arith}
use Rattle.reading.specs.Lists.{gather, pieces_of}
use Rattle.seasons.specs.Totals.{piece_lines}
use Rattle.totals.proofs.Rooms.{room_fewer, room_added}
use Rattle.totals.proofs.Runs.{piece_few, step_counted}
use Rattle.totals.proofs.add_step.Goals as goal

pub add_piece-requires : goal.add_piece-requires
add_piece-requires c = room_fewer 2 15 c.args.totals.now (omega arith) c.requires.1

pub add_faults-requires : goal.add_faults-requires
add_faults-requires c = (
  c.requires.0,
  room_added 13 15 c.args.totals.now (gather piece_lines (pieces_of c.args.step)) (omega (arith, piece_few c.args.step)) c.add_piece.ensures
      c.requires.1,
)

pub returns : goal.returns
returns c = (step_counted _ _ c.add_piece.ensures c.add_faults.ensures.0, c.add_faults.ensures.1)
