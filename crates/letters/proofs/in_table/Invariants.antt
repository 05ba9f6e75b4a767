-- `letters::in_table` meets its contract. The invariant: the ranges below `lo` end before `c`, and those from `hi` on start past
-- it, so where the two meet no range holds `c`. The measure is the ranges between. Assumes nothing.
use Prim.Native.Nat.{◌-◌, ◌*◌}
use mathlib.Core.Path.{◌≡◌}
use lib.ListN.{length}
use Rattle.letters.specs.TableLaws.{pairs}
use Rattle.letters.proofs.Bracket.{Bracket}
use Rattle.letters.proofs.in_table.Given as goal

abbrev pub invariant-loop-lo : goal.invariant-loop-lo
invariant-loop-lo l = Bracket l.table l.c l.lo l.hi × (length l.table ≡ 2 * pairs l.table)

abbrev pub decreases-loop-lo : goal.decreases-loop-lo
decreases-loop-lo l = l.hi - l.lo
