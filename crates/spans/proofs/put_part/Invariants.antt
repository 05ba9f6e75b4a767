-- `spans::put_part` meets its contract. The invariant: with the lines of the characters that are left the list is as it is to be,
-- and the line after them starts where it is to. The measure is what is left of the part.
use Prim.Native.Nat.{◌-◌}
use Rattle.utf8.specs.Chars.{chars_from, before}
use Rattle.spans.proofs.Lining.{Lining}
use Rattle.spans.proofs.put_part.Given as goal

abbrev pub invariant-loop-i : goal.invariant-loop-i
invariant-loop-i l = Lining l.frame l.initial.on (before l.end (chars_from l.text l.initial.i)) l.initial.out l.out l.on (before l.end (chars_from l.text l.i))

abbrev pub decreases-loop-i : goal.decreases-loop-i
decreases-loop-i l = l.end - l.i
