-- `pen::put_all` meets its contract. The invariant: what is left of the bytes, laid from here on, is as the whole laid at once. Assumes nothing.
use Rattle.std.proofs.Common.{◌≡◌, ℕ, ◌+◌, ◌<◌, List, [], ◌∷◌, get_or, drop, length, add-one, arith, drop-cons}
use Rattle.std.proofs.Math.ListN.{drop_of_length-le}
use Rattle.pen.specs.PenLaws.{left_first, left_last}
use Rattle.pen.proofs.Laying.{left_on}
use Rattle.pen.proofs.put_all.Goals as goal

-- the next byte and the others
next : (s : List ℕ) (i : ℕ) → i < length s → drop i s ≡ get_or s i 0 ∷ drop (i + 1) s
next s i h = rw (add-one, drop-cons s i 0)

pub loop-b-init : goal.loop-b-init
loop-b-init g c = left_first _ _ _

pub loop-b-preserved : goal.loop-b-preserved
loop-b-preserved g c =
    left_on (get_or c.args.bytes c.loop-b.b-index 0 ∷ []) _ c.loop-b.invariant (next c.args.bytes c.loop-b.b-index (omega arith)) c.put_byte-k.ensures

pub returns : goal.returns
returns g c = left_last c.loop-b.invariant (drop_of_length-le c.args.bytes (omega arith))
