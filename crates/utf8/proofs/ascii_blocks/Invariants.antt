-- `utf8::ascii_blocks` meets its contract. The invariant: the bytes from `at` to `i` are ASCII, since each turn passes a block of them; the last block
-- before `stop` begins at `i` or before it. The measure is what is left of the text. Assumes nothing.
use Prim.Native.Nat.{◌-◌}
use lib.ListN.{length}
use Rattle.utf8.specs.Blocks.{AsciiTo}
use Rattle.utf8.proofs.ascii_blocks.Given as goal

abbrev pub invariant-loop-i : goal.invariant-loop-i
invariant-loop-i l = AsciiTo l.text l.at l.stop l.i

abbrev pub decreases-loop-i : goal.decreases-loop-i
decreases-loop-i l = length l.text - l.i
