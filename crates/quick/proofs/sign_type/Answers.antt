-- `quick::sign_type` meets its contract: it is told where a spec is at its end after it.
use mathlib.Core.Path.{sym, ◌∙◌}
use Rattle.utf8.specs.Choice.{pick}
use Rattle.quick.specs.PartsTold.{sign_told}
use Rattle.quick.proofs.sign_type.Goals as goal

pub returns-then-not-ends_spec : goal.returns-then-not-ends_spec
unfolding sign_told pick
returns-then-not-ends_spec c = rw (← c.byte.ensures, sym c.ends_spec.ensures ∙ c.if-not-ends_spec.true)

pub returns : goal.returns
unfolding sign_told pick
returns c = rw (← c.byte.ensures, sym c.ends_spec.ensures ∙ c.if-not-ends_spec.false)
