-- `member::judge` meets its contract: mode 1 or 2 is 17; any other refusal is the one that is decided before the text is read; else the text is checked.
use mathlib.Core.Path.{sym, ◌∙◌}
use Rattle.answer.specs.DecisionLaws.{opened_small}
use Rattle.member.proofs.Opening.{other_mode, not_other, is_refused, is_open}
use Rattle.member.proofs.judge.Goals as goal

pub returns-then-is_other : goal.returns-then-is_other
returns-then-is_other c = other_mode _ _ _ (sym c.is_other.ensures ∙ c.if-is_other.true)

pub checked-requires : goal.checked-requires
checked-requires c = opened_small _ _ _ (rw c.in-Ok.is at c.opened.ensures)

pub returns-in-Ok : goal.returns-in-Ok
returns-in-Ok c =
    c.checked.ensures ∙ is_open _ _ _ (not_other _ (sym c.is_other.ensures ∙ c.if-is_other.false)) (rw c.in-Ok.is at c.opened.ensures)

pub returns-in-Err : goal.returns-in-Err
returns-in-Err c =
    let x = rw c.in-Err.is at c.opened.ensures in
    rw (c.from.ensures, c.place.ensures) (is_refused _ _ _ (not_other _ (sym c.is_other.ensures ∙ c.if-is_other.false)) x)
