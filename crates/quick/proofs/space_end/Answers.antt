-- `quick::space_end` meets its contract: an ASCII character above the space is no whitespace.
use mathlib.Core.Path.{sym}
use Rattle.quick.proofs.Bytes.{no_space}
use Rattle.quick.proofs.space_end.Goals as goal

pub returns-then-b-lt128 : goal.returns-then-b-lt128
returns-then-b-lt128 c = let a = c.args in sym (no_space a.text.now a.at c.byte-b.ensures c.if-b-gt32.true c.if-b-lt128.true)

pub returns : goal.returns
returns c = rw c.whole.ensures at c.space_end.ensures
