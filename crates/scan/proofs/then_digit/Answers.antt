-- `scan::then_digit` meets its contract: the number wraps where it had wrapped, where ten times it does, or where the sum does. Assumes nothing.
use Rattle.scan.proofs.Numbers.{digit_noted, one_of_three}
use Rattle.scan.proofs.then_digit.Goals as goal

pub returns : goal.returns
returns c m e =
    digit_noted _ _ _ _ m e c.times_ten-tens.ensures c.add_noted-sum.ensures (one_of_three c.args.n.over _ _)
