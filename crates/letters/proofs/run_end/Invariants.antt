-- `letters::run_end` meets its contract. The invariant: for each test that the answers are those of, the run from `i` ends where the run
-- from `at` does, since each turn passes a character that passes and the loop stops at the first that does not, or at the end. The
-- measure is what is left of the text. Assumes nothing.
use Rattle.std.proofs.Common.{ℕ, Bool, ◌≡◌, ◌-◌, ◌<◌, ◌^◌, length}
use Rattle.utf8.specs.Chars.{run_end}
use Rattle.letters.proofs.run_end.Given as goal

abbrev pub invariant-loop-seen : goal.invariant-loop-seen
invariant-loop-seen g l =
    (test : ℕ → Bool) → ((c : ℕ) (answer : Bool) → c < 2 ^ 32 → goal.F-post g l.passes c answer → answer ≡ test c) → run_end test l.text l.i ≡ run_end test l.text l.at

abbrev pub decreases-loop-seen : goal.decreases-loop-seen
decreases-loop-seen g l = length l.text - l.i
