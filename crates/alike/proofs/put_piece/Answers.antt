-- The parts of a piece, one after the other, are some bytes.
use Rattle.std.proofs.Common.{[]}
use Rattle.alike.proofs.Writing.{more, begins}
use Rattle.alike.proofs.put_piece.Goals as goal

pub returns : goal.returns
returns g c =
    let r = c.write-3.result in
    begins r _ _ [] _ (more r _ _ _ _ _ c.in_ok-write.ensures.bytes (more r _ _ _ _ _ c.in_ok-write_all.ensures.bytes c.write-3.ensures.bytes))
