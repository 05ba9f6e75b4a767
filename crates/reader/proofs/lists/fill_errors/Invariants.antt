-- The list has the records so far over the lent one, and with those from the cursor on they are all. The measure is how many are left.
use Rattle.std.proofs.Common.{◌≡◌, List, length}
use Rattle.reading.specs.Written.{over}
use Rattle.reading.specs.declared.ErrorRecord.{ErrorRecord}
use Rattle.reader.proofs.Runs.{Run, fault_course}
use Rattle.reader.proofs.lists.fill_errors.Given as goal

abbrev pub invariant-loop-turn : goal.invariant-loop-turn
invariant-loop-turn l = record {
  filled : List ErrorRecord;
  list : l.errors ≡ over filled l.initial.errors;
  count : l.n ≡ length filled;
  run : Run (fault_course l.text l.frame l.mode) filled (l.cursor, l.slot);
}

abbrev pub decreases-loop-turn : goal.decreases-loop-turn
decreases-loop-turn l = length ((fault_course l.text l.frame l.mode).at (l.cursor, l.slot))
