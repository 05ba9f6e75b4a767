-- `scan::span_across` meets its contract: it is the definition, call by call.
use Rattle.scan.specs.Ends.{span_across}
use Rattle.scan.proofs.span_across.Goals as goal

pub returns : goal.returns
unfolding span_across
returns c = rw (← c.start_of-start.ensures, ← c.end_of-end.ensures)
