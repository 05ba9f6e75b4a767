-- `quick::whole::hint_unless` meets its contract: of a closing brace nothing is said.
use mathlib.Core.Path.{◌∙◌}
use Rattle.quick.proofs.Endings.{brace_silent}
use Rattle.quick.proofs.whole.hint_unless.Goals as goal

pub returns-then-closed : goal.returns-then-closed
returns-then-closed c = brace_silent _ _ (c.requires.1 c.if-closed.true)

pub hint_at-requires : goal.hint_at-requires
hint_at-requires c = rw c.whole.ensures c.requires.0

pub returns : goal.returns
returns c = c.hint_at.ensures ∙ rw c.whole.ensures
