-- `literal::literal_end` meets its contract: where fewer than sixteen bytes are left, a brace or the end is among them.
use mathlib.Core.Path.{ap}
use native.Mathlib.Omega.{arith}
use Rattle.frame.specs.Places.{place}
use Rattle.scan.specs.Characters.{text_end}
use Rattle.literal.proofs.literal_end.Goals as goal

pub returns : goal.returns
unfolding text_end
returns c = ap place (c.brace_before.ensures.found (omega (arith, c.brace_before.ensures.same_end.1, c.if-i-text.false)))
