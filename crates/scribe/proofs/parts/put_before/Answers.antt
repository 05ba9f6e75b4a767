-- `scribe::parts::put_before` meets its contract: where the pen stands tells whether anything is laid behind the mark's place.
use Rattle.scribe.specs.ScribeLaws.{after_none, after_some}
use Rattle.scribe.proofs.parts.put_before.Goals as goal

pub returns-then-past-at : goal.returns-then-past-at
returns-then-past-at c old xs laid = after_none c.args.mark xs laid c.if-past-at.true

pub returns : goal.returns
returns c old xs laid = after_some c.args.mark xs laid c.if-past-at.false c.put_byte.ensures
