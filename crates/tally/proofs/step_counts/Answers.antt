-- `tally::step_counts` meets its contract: it is the definition, for a source literal and for anything else; a step has at most
-- one piece, thirteen faults, one place, and two lines for each byte.
use borrow.Author.Tests.{not-true, not-false}
use native.Mathlib.Omega.{arith}
use Rattle.utf8.specs.Choice.{pick}
use Rattle.laws.specs.Counting.{step_counts}
use Rattle.tally.proofs.CountLaws.{piece_few, place_few}
use Rattle.tally.proofs.step_counts.Goals as goal

pub returns-then-not-frame : goal.returns-then-not-frame
unfolding pick step_counts
returns-then-not-frame c =
    let args = c.args in (
      rw (
        ← c.piece_count-pieces.ensures,
        ← c.fault_count-errors.ensures.0,
        not-true args.frame.literal c.if-not-frame.true,
      ),
      omega (arith, piece_few args.step, c.piece_count-pieces.ensures, c.fault_count-errors.ensures.1),
    )

pub line_count-requires : goal.line_count-requires
line_count-requires c = c.requires.text

pub returns : goal.returns
unfolding pick step_counts
returns c =
    let args = c.args in (
      rw (
        ← c.piece_count-pieces.ensures,
        ← c.fault_count-errors.ensures.0,
        not-false args.frame.literal c.if-not-frame.false,
        ← c.place_count-places.ensures,
        ← c.line_count.ensures.0,
      ),
      omega (
        arith,
        piece_few args.step,
        c.piece_count-pieces.ensures,
        c.fault_count-errors.ensures.1,
        place_few args.step,
        c.place_count-places.ensures,
        c.line_count.ensures.1,
      ),
    )
