-- `scan::is_plain` meets its contract: the four sums are the block's.
use Rattle.std.proofs.Common.{◌+◌, arith, eqb-true}
use Rattle.utf8.specs.BlockLaws.{thirty_two}
use Rattle.scan.specs.Characters.{is_plain}
use Rattle.scan.proofs.is_plain.Goals as goal

pub returns : goal.returns
returns c = λ y.
    let a = c.args in
    let n = c.plains.result + c.plains-2.result + c.plains-3.result + c.plains-4.result in
    let all = eqb-true n _ y in
    omega (arith, all, thirty_two is_plain a.text.now a.at)
