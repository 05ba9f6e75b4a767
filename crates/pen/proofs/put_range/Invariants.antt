-- `pen::put_range` meets its contract. The invariant: what is left of the part, laid from here on, is as the whole laid at once.
use Prim.Native.Nat.{◌-◌}
use lib.ListN.{take, drop}
use Rattle.pen.specs.PenLaws.{Left}
use Rattle.pen.proofs.put_range.Given as goal

abbrev pub invariant-loop-i : goal.invariant-loop-i
invariant-loop-i l =
    let all = l.fn.range.end.0 - l.fn.range.start.0 in
    Left l.initial.out l.at (take all (drop l.fn.range.start.0 l.text)) l.out l.k (take (l.fn.range.end.0 - l.i) (drop l.i l.text))
