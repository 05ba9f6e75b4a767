-- `answer::decide::opened_by` meets its contract: a state that does not fit, an early refusal, or what the check of the whole text says.
use mathlib.Core.Path.{sym, ap}
use Rattle.reading.specs.declared.Answer.{Answer}
use Rattle.answer.proofs.Decisions.{residual, unfit_refuses, early_refuses, late_opens}
use Rattle.answer.proofs.decide.opened_by.Goals as goal

pub returns-then-asked : goal.returns-then-asked
returns-then-asked c = unfit_refuses _ _ _ c.if-asked.true

pub returns-in_err-early : goal.returns-in_err-early
returns-in_err-early c = rw (residual _ c.from_residual.ensures.1) (early_refuses _ _ _ c.if-asked.false c.in_err-early.ensures)

pub returns : goal.returns
returns c =
    let check = c.check_by-checked.ensures in
    late_opens _ _ _ c.if-asked.false c.check_by-checked.result (sym (ap (λ (y : Answer). y.number) c.in_ok-early.ensures))
    check.0 check.1 _ c.late.ensures
