-- `spans::fill_lines` meets its contract. The invariant: with the lines that the steps left still have the list is as it is to be.
use Rattle.std.specs.Prelude.{◌≡◌, ℕ, ◌+◌}
use Rattle.reading.specs.Steps.{steps_from}
use Rattle.reading.specs.Lists.{lines}
use Rattle.laws.specs.WalkLaws.{Kept}
use Rattle.spans.proofs.Filling.{Going}
use Rattle.spans.proofs.Lining.{lines_left}
use Rattle.spans.proofs.fill_lines.Given as goal

abbrev pub invariant-loop : goal.invariant-loop
invariant-loop l =
    (left : ℕ) × (l.counter + left ≡ l.end) ×
    Going l.initial.out 0 (lines l.text l.frame l.mode) l.out l.run.count (lines_left l.text l.frame l.run.line (steps_from left l.text l.frame l.mode l.state))
    × Kept left l.state
