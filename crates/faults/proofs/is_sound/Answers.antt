-- A closed placeholder has no slots but its five parts'.
use mathlib.Core.List.{append-nil}
use Rattle.reading.specs.Faults.{closing_slots}
use Rattle.faults.proofs.is_sound.Goals as goal
use Rattle.faults.proofs.is_sound.Goals.{in-Closed, in_default}

pub returns-then-matches : goal.returns-then-matches
unfolding closing_slots
returns-then-matches c =
    λ e brace.
    elim c.match-matches.branch [
      | in-Closed w ↦ rw (w.in-Closed.is, append-nil) (c.no_flaws.ensures e)
      | in_default w ↦ let h = w.matches-is in let g = c.if-matches.true in cc
    ]
