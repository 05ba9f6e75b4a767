-- `letters::ascii_continue_end` meets its contract. The invariant: the run of continuations from `i` ends where the run from `at`
-- does, since each turn passes a continuation. Assumes nothing.
use mathlib.Core.Path.{◌≡◌}
use Rattle.letters.specs.Questions.{is_continue}
use Rattle.utf8.specs.Chars.{run_end}
use Rattle.std.proofs.Common.{◌≤◌, max, length}
use Rattle.letters.proofs.ascii_continue_end.Given as goal

abbrev pub invariant-loop-i : goal.invariant-loop-i
invariant-loop-i l = (run_end is_continue l.text l.i ≡ run_end is_continue l.text l.at) × (l.i ≤ max l.at (length l.text))
