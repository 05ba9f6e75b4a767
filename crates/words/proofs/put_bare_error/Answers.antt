-- `words::put_bare_error` meets its contract: the head, and after it nothing but zeros.
use Prim.Native.Nat.{◌*◌}
use Rattle.reading.specs.Records.{bare_error}
use Rattle.words.proofs.Wholes.{error_laid}
use Rattle.words.proofs.put_bare_error.Goals as goal

pub returns : goal.returns
returns c =
    let a = c.args in
    error_laid a.out.now (16 * a.n) (bare_error a.kind a.span a.piece) c.requires
    (rw (c.low.ensures, c.low-2.ensures, c.low-3.ensures) at c.put4.ensures)
    c.put4-2.ensures
    c.put4-3.ensures
    c.put4-4.ensures
