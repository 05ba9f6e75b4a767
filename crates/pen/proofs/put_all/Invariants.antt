-- `pen::put_all` meets its contract. The invariant: what is left of the bytes, laid from here on, is as the whole laid at once. Assumes nothing.
use Rattle.std.proofs.Common.{drop}
use Rattle.pen.specs.PenLaws.{Left}
use Rattle.pen.proofs.put_all.Given as goal

abbrev pub invariant-loop-b : goal.invariant-loop-b
invariant-loop-b g l = Left l.initial.out l.fn.at l.fn.bytes l.out l.k (drop l.b-index l.fn.bytes)
