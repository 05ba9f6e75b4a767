-- A range ends past its start.
use Rattle.std.proofs.Common.{◌-◌, ◌≤◌}
use Rattle.scalars.proofs.section.Given as goal

abbrev pub invariant-loop-range : goal.invariant-loop-range
invariant-loop-range g l = goal.F-IsAlwaysCallable g l.question × (l.from ≤ 0x110000)

abbrev pub decreases-loop-range : goal.decreases-loop-range
decreases-loop-range g l = 0x110000 - l.from
