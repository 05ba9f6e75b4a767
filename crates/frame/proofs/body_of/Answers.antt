-- `frame::body_of` meets its contract: the last byte goes when a newline is marked and there is one; else the text is the whole body.
use Rattle.std.proofs.Common.{sym, arith}
use Rattle.std.proofs.Math.Seq.{take_all}
use Rattle.utf8.specs.Choice.{pick}
use Rattle.frame.specs.Frames.{body}
use Rattle.frame.proofs.Literal.{body_less}
use Rattle.frame.proofs.body_of.Goals as goal

pub returns-then-not-newline : goal.returns-then-not-newline
unfolding body pick
returns-then-not-newline c = rw c.if-not-newline.true

pub returns-in-Some : goal.returns-in-Some
returns-in-Some c = rw c.if-not-newline.false (body_less _ _ _ c.in-Some.ensures.cases.0)

pub returns-in-None : goal.returns-in-None
unfolding body pick
returns-in-None c = rw c.if-not-newline.false (sym (take_all _ c.args.text.now (omega (arith, c.in-None.ensures.cases))))
