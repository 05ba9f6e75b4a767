-- `utf8::is_ascii` meets its contract: the four sums are the block's, and where all 32 bytes are ASCII none is high. Assumes nothing.
use borrow.Author.Tests.{eqb-true}
use Prim.Native.Nat.{◌+◌}
use native.Mathlib.Omega.{arith}
use Rattle.utf8.specs.Blocks.{is_high, is_low}
use Rattle.utf8.specs.BlockLaws.{thirty_two, how_many_either}
use Rattle.utf8.proofs.is_ascii.Goals as goal

pub returns : goal.returns
returns c = λ y.
    let a = c.args in
    let n = c.lows.result + c.lows-2.result + c.lows-3.result + c.lows-4.result in
    let all = eqb-true n _ y in
    omega (arith, all, thirty_two is_low a.text.now a.at, how_many_either is_high a.text.now a.at 32)
