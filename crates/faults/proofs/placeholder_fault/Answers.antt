-- The first five slots are the argument's, the others those of the end.
use mathlib.Core.Path.{sym, ◌∙◌}
use Rattle.laws.specs.FaultLaws.{placeholder_argument, placeholder_closing}
use Rattle.faults.proofs.placeholder_fault.Goals as goal

pub returns-then-k-lt5 : goal.returns-then-k-lt5
returns-then-k-lt5 c = c.of_flaw.ensures ∙ c.argument_flaw.ensures ∙ sym (placeholder_argument _ _ _ _ c.if-k-lt5.true)

pub returns-else-k-lt5 : goal.returns-else-k-lt5
returns-else-k-lt5 c = c.closing_fault.ensures ∙ sym (placeholder_closing _ _ _ _ c.if-k-lt5.false)
