-- `tally::newlines_in` meets its contract. The invariant: the newlines counted and those from `i` on are those of the part, and
-- there are no more of them than bytes passed. The measure is what is left of the part.
use Prim.Native.Nat.{◌+◌, ◌-◌, ◌≤◌}
use mathlib.Core.Path.{◌≡◌}
use lib.ListN.{length}
use Rattle.utf8.specs.Chars.{chars_from, before}
use Rattle.reading.specs.Lines.{newlines}
use Rattle.tally.proofs.newlines_in.Given as goal

abbrev pub invariant-loop-i : goal.invariant-loop-i
invariant-loop-i l =
    (l.n + newlines (before l.end (chars_from l.text l.i)) ≡ newlines (before l.end (chars_from l.text l.initial.i))) × (l.n + (length l.text - l.i) ≤ length l.text)

abbrev pub decreases-loop-i : goal.decreases-loop-i
decreases-loop-i l = l.end - l.i
