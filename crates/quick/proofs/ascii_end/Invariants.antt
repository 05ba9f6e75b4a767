-- `quick::ascii_end` meets its contract. The invariant: the run of continuations from `i` ends where the run from `at`
-- does, since each turn passes a continuation, and has as many characters more.
use Prim.Native.Nat.{ℕ, ◌+◌, ◌≤◌}
use mathlib.Core.Path.{◌≡◌}
use lib.ListN.{length}
use Rattle.letters.specs.Questions.{is_continue}
use Rattle.utf8.specs.Chars.{chars_of, run_end}
use Rattle.std.proofs.Common.{max}
use Rattle.quick.proofs.ascii_end.Given as goal

abbrev pub invariant-loop-i : goal.invariant-loop-i
invariant-loop-i l =
    (run_end is_continue l.text l.i ≡ run_end is_continue l.text l.at)
    × (l.i ≤ max l.at (length l.text))
    × ((e : ℕ) → l.i ≤ e → l.i + length (chars_of l.text l.i e) ≡ l.at + length (chars_of l.text l.at e))
