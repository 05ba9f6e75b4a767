-- `arrivals::nitarehpu_part` meets its contract: with room for the state the part is taken, and what it leaves is written. Assumes nothing.
use Rattle.arrivals.proofs.Sending.{bare, refused, sent}
use Rattle.arrivals.proofs.nitarehpu_part.Goals as goal

pub returns-then-state-lt3 : goal.returns-then-state-lt3
returns-then-state-lt3 c = bare _ _ _ c.if-state-lt3.true

pub returns-then-taken-ne0 : goal.returns-then-taken-ne0
returns-then-taken-ne0 c = refused _ _ _ c.if-state-lt3.false c.state_of-before.ensures c.part-taken.ensures c.if-taken-ne0.true

pub returns : goal.returns
returns c = sent _ _ _ c.if-state-lt3.false c.state_of-before.ensures c.part-taken.ensures c.if-taken-ne0.false c.put_state.ensures
