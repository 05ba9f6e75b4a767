-- `scan::brace_before` meets its contract. The invariant: the run of plain characters from `i` ends where the run from `at` does,
-- since each turn passes a byte that is no brace; the loop stops at one that is, at the end, or at the limit.
use Rattle.std.proofs.Common.{◌≡◌, ◌≤◌, max}
use Rattle.utf8.specs.Chars.{run_end}
use Rattle.scan.specs.Characters.{is_plain}
use Rattle.scan.proofs.brace_before.Given as goal

abbrev pub invariant-loop-i : goal.invariant-loop-i
invariant-loop-i l = (run_end is_plain l.text l.i ≡ run_end is_plain l.text l.at) × (l.i ≤ max l.at l.stop)
