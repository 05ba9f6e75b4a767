-- `export::is_roomy` meets its contract: where all its tests pass, each is what is asked.
use mathlib.Core.Path.{sym}
use mathlib.Core.Bool.{true≢false}
use borrow.Author.Tests.{leb-true}
use Rattle.export.proofs.is_roomy.Goals as goal

pub returns-then-frame : goal.returns-then-frame
returns-then-frame c = λ e. absurd (true≢false (sym e))

pub returns-then-rooms-size : goal.returns-then-rooms-size
returns-then-rooms-size c = λ e. absurd (true≢false (sym e))

pub returns : goal.returns
returns c = λ e. record { literal = c.if-frame.false; pieces = c.if-rooms-size.false; errors = leb-true _ _ e }
