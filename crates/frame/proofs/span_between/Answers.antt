-- `frame::span_between` meets its contract: the two starts are those of the definition.
use Rattle.frame.specs.Spans.{span_between}
use Rattle.frame.proofs.span_between.Goals as goal

pub returns : goal.returns
unfolding span_between
returns c = rw (← c.start_of-start.ensures, ← c.start_of-end.ensures)
