-- `totals::add_steps` meets its contract: the invariant (`Walk`) says that with what the steps left count the totals are as they are to be. A step that is
-- passed is counted already; else the run stands as it did, and takes the plain step.
use Rattle.std.specs.Prelude.{◌≡◌, ℕ, ◌+◌}
use Rattle.totals.proofs.Runs.{Walk}
use Rattle.totals.proofs.add_steps.Given as goal

abbrev pub invariant-loop : goal.invariant-loop
invariant-loop l = (left : ℕ) × (l.counter + left ≡ l.end) × Walk l.text l.frame l.initial.totals l.totals l.sound left l.state
