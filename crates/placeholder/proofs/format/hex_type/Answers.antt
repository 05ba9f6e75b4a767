-- `placeholder::format::hex_type` meets its contract: it is the definition, one case with a `?` and one without.
use Rattle.utf8.specs.Choice.{pick}
use Rattle.placeholder.specs.Types.{hex_type}
use Rattle.placeholder.proofs.format.hex_type.Goals as goal

pub returns-then-debug : goal.returns-then-debug
unfolding hex_type pick
returns-then-debug c = rw (← c.consume-debug.ensures, c.if-debug.true, ← c.sign_type.ensures)

pub returns : goal.returns
unfolding hex_type pick
returns c = rw (← c.consume-debug.ensures, c.if-debug.false, ← c.sign_type-2.ensures)
