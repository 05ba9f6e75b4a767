-- `steps::wants::place_wants` meets its contract: the cases are the definition's.
use native.Mathlib.Omega.{arith}
use Rattle.steps.proofs.wants.place_wants.Goals as goal

pub overflow_add-result : goal.overflow_add-result
overflow_add-result c = omega (arith, rw c.in-Next.is at c.requires)

pub returns-in-Next : goal.returns-in-Next
returns-in-Next c = rw c.in-Next.is
