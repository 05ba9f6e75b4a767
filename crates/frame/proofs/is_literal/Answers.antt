-- `frame::is_literal` meets its contract: with a snippet the style decides; without one there is no source literal.
use Rattle.frame.specs.Frames.{is_literal}
use Rattle.frame.proofs.is_literal.Goals as goal

pub returns-then-given : goal.returns-then-given
unfolding is_literal
returns-then-given c = rw (c.in-Some.is, c.if-given.true, ← c.body_of.ensures) c.is_raw_literal.ensures

pub returns-else-given : goal.returns-else-given
unfolding is_literal
returns-else-given c = rw (c.in-Some.is, c.if-given.false)

pub returns-in-None : goal.returns-in-None
unfolding is_literal
returns-in-None c = rw c.in-None.is
