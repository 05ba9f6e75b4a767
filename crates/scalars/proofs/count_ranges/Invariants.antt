-- There are no more ranges than codes before the place that is reached.
use Rattle.std.proofs.Common.{◌-◌, ◌≤◌}
use Rattle.scalars.proofs.count_ranges.Given as goal

abbrev pub invariant-loop-range : goal.invariant-loop-range
invariant-loop-range g l = (l.count ≤ l.from) × (l.from ≤ 0x110000)

abbrev pub decreases-loop-range : goal.decreases-loop-range
decreases-loop-range g l = 0x110000 - l.from
