-- `words::put_error` meets its contract: the parts are laid one after another.
use Prim.Native.Nat.{◌*◌}
use Rattle.words.proofs.Wholes.{error_laid}
use Rattle.words.proofs.put_error.Goals as goal

pub returns : goal.returns
returns c =
    let a = c.args in
    error_laid a.out.now (16 * a.n) a.«record» c.requires
    (rw (c.low.ensures, c.low-2.ensures, c.low-3.ensures) at c.put4.ensures)
    c.put_span.ensures
    c.put_range.ensures
    c.put_span-2.ensures
