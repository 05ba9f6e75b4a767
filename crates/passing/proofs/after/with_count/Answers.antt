-- `passing::after::with_count` meets its contract: a figure is the larger of itself and none.
use mathlib.Core.Path.{sym}
use Rattle.laws.specs.WantLaws.{larger_none}
use Rattle.passing.proofs.Afters.{wants_none}
use Rattle.passing.proofs.after.with_count.Goals as goal

pub returns-in_default : goal.returns-in_default
returns-in_default c = rw (wants_none _ _ c.in_default.not-Argument c.in_default.not-Star) (sym (larger_none _))
