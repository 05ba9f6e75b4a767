-- `scan::times_ten` meets its contract: 10x wraps where 2x, 4x, 5x or 10x does, each made of the one before. Assumes nothing.
use Rattle.scan.proofs.Numbers.{ten_noted, one_of_four}
use Rattle.scan.proofs.times_ten.Goals as goal

pub returns : goal.returns
returns c =
    ten_noted _ _ _ _ _ c.add_noted-two.ensures c.add_noted-four.ensures
    c.add_noted-five.ensures c.add_noted-ten.ensures (one_of_four c.add_noted-two.result.over _ _ _)
