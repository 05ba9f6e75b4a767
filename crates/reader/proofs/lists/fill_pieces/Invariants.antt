-- The list has the pieces so far over the lent one, and with those from the cursor on they are all. The measure is how many are left.
use Rattle.std.proofs.Common.{◌≡◌, List, length}
use Rattle.reading.specs.Written.{over}
use Rattle.reading.specs.declared.Piece.{Piece}
use Rattle.reader.proofs.Runs.{Run, piece_course}
use Rattle.reader.proofs.lists.fill_pieces.Given as goal

abbrev pub invariant-loop-turn : goal.invariant-loop-turn
invariant-loop-turn l = record {
  filled : List Piece;
  list : l.pieces ≡ over filled l.initial.pieces;
  count : l.n ≡ length filled;
  run : Run (piece_course l.text l.frame l.mode) filled l.cursor;
}

abbrev pub decreases-loop-turn : goal.decreases-loop-turn
decreases-loop-turn l = length ((piece_course l.text l.frame l.mode).at l.cursor)
