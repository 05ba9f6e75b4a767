-- `placeholder::modes::diagnostic_type` meets its contract: it is the definition, call by call.
use Rattle.placeholder.specs.Specs.{diagnostic_type}
use Rattle.placeholder.proofs.modes.diagnostic_type.Goals as goal

pub returns : goal.returns
unfolding diagnostic_type
returns c = rw (← c.string_end-end.ensures, ← c.span_between.ensures)
