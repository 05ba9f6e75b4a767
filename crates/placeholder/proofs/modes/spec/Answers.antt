-- `placeholder::modes::spec` meets its contract: it is the definition, one case with a colon and one without.
use Rattle.utf8.specs.Choice.{pick}
use Rattle.placeholder.specs.Specs.{spec_read}
use Rattle.placeholder.proofs.modes.spec.Goals as goal

pub returns-then-colon : goal.returns-then-colon
unfolding spec_read pick
returns-then-colon c =
    rw (← c.consume-colon.ensures, c.if-colon.true, ← c.after_colon.ensures)

pub returns : goal.returns
unfolding spec_read pick
returns c =
    rw (← c.consume-colon.ensures, c.if-colon.false, ← c.no_spec.ensures)
