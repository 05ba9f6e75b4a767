-- `words::put_literal` meets its contract: the head, and after it nothing but zeros.
use Prim.Native.Nat.{◌*◌}
use Rattle.frame.specs.Places.{place, range_of}
use Rattle.words.proofs.Wholes.{literal_laid}
use Rattle.words.proofs.put_literal.Goals as goal

pub returns : goal.returns
returns c =
    let a = c.args in
    literal_laid a.out.now (40 * a.n) (range_of (place a.start) (place a.end)) c.requires
    (rw (c.low.ensures, c.low-2.ensures) at c.put4.ensures)
    c.put4-2.ensures
    c.put_zeros.ensures
    c.put4-3.ensures
    c.put4-4.ensures
