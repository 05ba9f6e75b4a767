-- `tally::tally` meets its contract. The invariant: the counts so far and what the steps from the state on come to are the
-- answer, and so is what was given back so far and what those steps give back; they come to the reading's last state; a turn adds at most 131,070 to
-- each count, 262,140 to what was given back, and four to the next argument's number.
use Rattle.std.specs.Prelude.{ℕ}
use Prim.Native.Nat.{◌+◌, ◌-◌, ◌*◌, ◌≤◌}
use mathlib.Core.Path.{◌≡◌}
use lib.ListN.{length}
use Rattle.reading.specs.Steps.{steps_from, start}
use Rattle.reading.specs.Lists.{counts_of}
use Rattle.laws.specs.Counting.{sum, Countable}
use Rattle.tally.proofs.CountLaws.{counts_in}
use Rattle.laws.specs.WalkLaws.{Kept}
use Rattle.laws.specs.MoveLaws.{given_in, given as back}
use Rattle.laws.specs.StateLaws.{last_state}
use Rattle.tally.proofs.tally.Given as goal

abbrev pub invariant-loop : goal.invariant-loop
invariant-loop l =
    (left : ℕ) × (l.counter + left ≡ l.end) × (sum l.counts (counts_in l.text l.frame (steps_from left l.text l.frame l.mode l.state)) ≡ counts_of l.text l.frame l.mode)
    × Countable (131070 * (length l.text + 1 - left)) l.counts
    × (left ≤ length l.text + 1)
    × Kept left l.state
    × (last_state left l.text l.frame l.mode l.state ≡ last_state (length l.text + 1) l.text l.frame l.mode start)
    × (l.given + given_in (steps_from left l.text l.frame l.mode l.state) ≡ back l.text l.frame l.mode)
    × (l.given ≤ 262140 * (length l.text + 1 - left))
