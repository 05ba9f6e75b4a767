-- `words::put_argument` meets its contract: the parts are laid one after another, and each is where the one before it ends.
use Prim.Native.Nat.{◌*◌}
use native.Mathlib.Omega.{arith}
use Rattle.words.proofs.Wholes.{argument_laid}
use Rattle.words.proofs.put_argument.Goals as goal

pub overflow_add-k-5 : goal.overflow_add-k-5
overflow_add-k-5 c = omega (arith, c.requires, c.well_formed)

pub put_count-requires-2 : goal.put_count-requires-2
put_count-requires-2 c = omega (arith, c.requires, c.out-1.given, c.out-2-1.given, c.out-3-1.given, c.out-4-1.given, c.out-5-1.given)

pub overflow_add-k-6 : goal.overflow_add-k-6
overflow_add-k-6 c = omega (arith, c.requires, c.well_formed)

pub put4-requires-3 : goal.put4-requires-3
put4-requires-3 c = omega (arith, c.requires, c.out-1.given, c.out-2-1.given, c.out-3-1.given, c.out-4-1.given, c.out-5-1.given, c.out-6-1.given)

pub overflow_add-k-7 : goal.overflow_add-k-7
overflow_add-k-7 c = omega (arith, c.requires, c.well_formed)

pub put_span-requires : goal.put_span-requires
put_span-requires c = omega (arith, c.requires, c.out-1.given, c.out-2-1.given, c.out-3-1.given, c.out-4-1.given, c.out-5-1.given, c.out-6-1.given, c.out-7-1.given)

pub shape_of-out : goal.shape_of-out
shape_of-out c = omega (arith, c.out-1.given, c.out-2-1.given, c.out-3-1.given, c.out-4-1.given, c.out-5-1.given, c.out-6-1.given, c.out-7-1.given, c.out-8-1.given)

pub returns : goal.returns
returns c =
    let a = c.args in
    argument_laid a.out.now (40 * a.n) a.argument c.requires
    (rw (c.low.ensures, c.low-2.ensures, c.place_tag.ensures) at c.put4.ensures)
    c.put_place.ensures
    c.put_fill.ensures
    (rw (c.align_word.ensures, c.sign_word.ensures, c.bit.ensures, c.bit-2.ensures) at c.put4-2.ensures)
    c.put_count.ensures
    c.put_count-2.ensures
    (rw (c.low-3.ensures, c.low-4.ensures, c.hex_word.ensures) at c.put4-3.ensures)
    c.put_span.ensures
