-- `spans::fill_places` meets its contract. The invariant: with the argument places of the steps that are left the list is as it is
-- to be.
use Rattle.std.specs.Prelude.{◌≡◌, ℕ, ◌+◌}
use Rattle.reading.specs.Steps.{steps_from}
use Rattle.reading.specs.Lists.{gather, places_of, places}
use Rattle.laws.specs.WalkLaws.{Kept}
use Rattle.spans.proofs.Filling.{Going}
use Rattle.spans.proofs.fill_places.Given as goal

abbrev pub invariant-loop : goal.invariant-loop
invariant-loop l =
    (left : ℕ) × (l.counter + left ≡ l.end) ×
    Going l.initial.out 0 (places l.text l.frame l.mode) l.out l.n (gather (places_of l.text l.frame) (steps_from left l.text l.frame l.mode l.state)) × Kept left l.state
