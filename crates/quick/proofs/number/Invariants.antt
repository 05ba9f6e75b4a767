-- `quick::number` meets its contract. The invariant: the digits passed spell the value. A fifth digit is not told.
use Rattle.quick.proofs.Numbers.{Spelt}
use Rattle.quick.proofs.number.Given as goal

abbrev pub invariant-loop-i : goal.invariant-loop-i
invariant-loop-i l = Spelt l.text l.at l.value l.i
