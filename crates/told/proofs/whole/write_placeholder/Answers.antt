-- `told::whole::write_placeholder` meets its contract: what is told is written, without a colon in one go, with one the spec first and then the head.
use borrow.Author.Tests.{not-true, not-false}
use native.Mathlib.Omega.{arith}
use Prim.Native.Nat.{◌*◌}
use Rattle.told.proofs.Telling.{bare_told, spec_told_lem}
use Rattle.told.proofs.whole.write_placeholder.Goals as goal

pub put_bare-requires : goal.put_bare-requires
put_bare-requires c = (c.requires.0, c.in_ok-told.ensures.reached, omega (arith, c.requires.0.text, c.requires.1), c.requires.3)

pub returns-then-not-told : goal.returns-then-not-told
returns-then-not-told c =
    let a = c.args in
    record {
      tells = c.in_ok-told.ensures;
      wrote = bare_told a.text.now a.frame a.brace _ a.next a.out.now (40 * a.n) c.requires.3 (not-true _ c.if-not-told.true) (rw c.after_star-after.ensures at c.put_bare.ensures);
    }

pub overflow_add-told : goal.overflow_add-told
overflow_add-told c = omega (arith, c.in_ok-told.ensures.reached, c.requires.0.text)

pub put_spec-requires : goal.put_spec-requires
put_spec-requires c =
    let told = c.in_ok-told.ensures in
    (c.requires.0, omega (arith, c.requires.3), omega (arith, told.counted, c.requires.0.text))

pub put_told_head-requires : goal.put_told_head-requires
put_told_head-requires c =
    (c.requires.0, c.in_ok-told.ensures.reached, omega (arith, c.requires.0.text, c.requires.1), omega (arith, c.requires.3, c.out-2-1.given))

pub returns : goal.returns
returns c =
    let a = c.args in
    record {
      tells = c.in_ok-told.ensures;
      wrote = spec_told_lem a.text.now a.frame a.brace _ a.next a.out.now (40 * a.n) c.requires.3 (not-false _ c.if-not-told.false) c.put_spec.ensures (rw c.after_star-after.ensures at c.put_told_head.ensures);
    }
