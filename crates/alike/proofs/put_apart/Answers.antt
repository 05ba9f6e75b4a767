-- The first part that is written begins with `differ at piece `.
use Rattle.std.proofs.Common.{codes}
use Rattle.alike.proofs.Writing.{more, begins}
use Rattle.alike.proofs.put_apart.Goals as goal

pub returns : goal.returns
returns g c =
    let r = c.writeln.result in
    let pieces = more r _ _ _ _ _ c.in_ok-put_piece.ensures.1 (more r _ _ _ _ _ c.in_ok-write-2.ensures.bytes (more r _ _ _ _ _ c.in_ok-put_piece-2.ensures.1 c.writeln.ensures.bytes)) in
    begins r _ _ (codes "differ at piece ") _ (more r _ _ _ _ _ c.in_ok-write.ensures.bytes pieces)
