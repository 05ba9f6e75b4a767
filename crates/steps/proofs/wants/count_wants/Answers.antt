-- `steps::wants::count_wants` meets its contract: the cases are the definition's.
use native.Mathlib.Omega.{arith}
use Rattle.steps.proofs.wants.count_wants.Goals as goal

pub overflow_add-result : goal.overflow_add-result
overflow_add-result c = omega (arith, rw c.in-ByStar.is at c.requires)

pub returns-in-ByStar : goal.returns-in-ByStar
returns-in-ByStar c = rw c.in-ByStar.is
