-- `scribe::parts::put_precision` meets its contract: the precision, and the dot before it.
use Rattle.scribe.proofs.parts.put_precision.Goals as goal

pub returns : goal.returns
returns c = c.put_before.ensures _ _ c.put_count-k.ensures
