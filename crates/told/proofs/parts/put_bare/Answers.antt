-- `told::parts::put_bare` meets its contract: the head, and what stands for no spec.
use Prim.Native.Nat.{◌*◌}
use Rattle.told.proofs.Telling.{bare_laid}
use Rattle.told.proofs.parts.put_bare.Goals as goal

pub returns : goal.returns
returns c =
    let a = c.args in
    bare_laid a.text.now a.frame a.brace a.told a.next a.out.now (40 * a.n) c.requires.3 c.put_told_head.ensures c.put_zeros.ensures
    (rw c.low-to.ensures at c.put4.ensures) c.put4-2.ensures
