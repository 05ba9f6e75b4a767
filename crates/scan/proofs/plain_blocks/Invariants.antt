-- `scan::plain_blocks` meets its contract. The invariant: `i` is within the text, and the run of plain characters from `i` ends where
-- the run from `at` does, since each turn passes a block without a brace. The measure is what is left of the text.
use Rattle.std.proofs.Common.{◌≡◌, ◌-◌, ◌≤◌, length}
use Rattle.utf8.specs.Chars.{run_end}
use Rattle.scan.specs.Characters.{is_plain}
use Rattle.scan.proofs.plain_blocks.Given as goal

abbrev pub invariant-loop-i : goal.invariant-loop-i
invariant-loop-i l = (l.i ≤ length l.text) × (run_end is_plain l.text l.i ≡ run_end is_plain l.text l.at)

abbrev pub decreases-loop-i : goal.decreases-loop-i
decreases-loop-i l = length l.text - l.i
