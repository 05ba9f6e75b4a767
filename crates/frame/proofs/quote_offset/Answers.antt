-- `frame::quote_offset` meets its contract: each style has its own case.
use Rattle.frame.proofs.quote_offset.Goals as goal

pub returns-in-Some : goal.returns-in-Some
returns-in-Some c = rw c.in-Some.is
