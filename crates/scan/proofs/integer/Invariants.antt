-- `scan::integer` meets its contract. The invariant: what is kept is some number n as it is noted, and the digits from `i` after n make
-- what the digits from `at` make. The measure is what is left of the text.
use Rattle.std.proofs.Common.{◌≡◌, ℕ, ◌-◌, length}
use Rattle.scan.specs.Words.{number_read}
use Rattle.scan.specs.Wrapping.{noted}
use Rattle.scan.proofs.Numbers.{rest}
use Rattle.scan.proofs.integer.Given as goal

abbrev pub invariant-loop-seen : goal.invariant-loop-seen
invariant-loop-seen l = (n : ℕ) × (l.kept ≡ noted n) × (rest l.text n l.at l.i ≡ number_read l.text l.at)

abbrev pub decreases-loop-seen : goal.decreases-loop-seen
decreases-loop-seen l = length l.text - l.i
