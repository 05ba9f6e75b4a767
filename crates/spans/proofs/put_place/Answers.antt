-- `spans::put_place` meets its contract: only a placeholder that is closed has a place.
use Rattle.spans.proofs.put_place.Goals as goal

pub put_closed-requires : goal.put_closed-requires
put_closed-requires c = (c.requires.0, rw c.in-Placeholder.is at c.requires.1)

pub returns-in-Placeholder : goal.returns-in-Placeholder
returns-in-Placeholder c = rw c.in-Placeholder.is c.put_closed.ensures
