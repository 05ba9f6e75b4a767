-- The slot with a number: the first two, then an argument's five, then what is said, and past the eighth there is none.
use mathlib.Core.Path.{sym, ◌∙◌}
use native.Mathlib.Omega.{arith}
use Rattle.reading.specs.Faults.{argument_slots, missing_slots}
use Rattle.laws.specs.FaultLaws.{missing_field, missing_past}
use Rattle.faults.proofs.missing_fault.Goals as goal

pub returns-in-0 : goal.returns-in-0
unfolding missing_slots
returns-in-0 c = rw (c.in-0.is, ← c.of_gap.ensures)

pub returns-in-1 : goal.returns-in-1
unfolding missing_slots
returns-in-1 c = rw (c.in-1.is, ← c.of_flaw.ensures)

pub returns-in-7 : goal.returns-in-7
unfolding argument_slots missing_slots
returns-in-7 c = rw (c.in-7.is, ← c.of_hint.ensures)

pub returns-in-2-to-6 : goal.returns-in-2-to-6
returns-in-2-to-6 c =
    c.of_flaw-in-2-to-6.ensures ∙ c.argument_flaw.ensures ∙ sym (missing_field _ _ _ _ (omega arith) (omega arith))

pub returns-in_default : goal.returns-in_default
returns-in_default c = sym (missing_past _ _ _ _ (omega arith))
