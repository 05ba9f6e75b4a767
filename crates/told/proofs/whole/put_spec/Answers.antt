-- `told::whole::put_spec` meets its contract: the parts of a spec, one after another.
use mathlib.Core.Path.{◌≡◌, refl, ◌∙◌}
use native.Mathlib.Omega.{arith}
use Rattle.quick.specs.Tellings.{precision_of}
use Rattle.told.proofs.Telling.{spec_laid}
use Rattle.told.proofs.whole.put_spec.Goals as goal

pub overflow_add-k-4 : goal.overflow_add-k-4
overflow_add-k-4 c = omega (arith, c.requires.1, c.well_formed)

pub returns : goal.returns
unfolding precision_of
returns c =
    let a = c.args in
    let p = c.requires in
    spec_laid a.text.now a.frame a.at a.next a.spec a.out.now a.k p.1 c.put_told_fill.ensures
    (rw (c.align_word.ensures, c.sign_word.ensures, c.bit.ensures, c.bit-2.ensures) at c.put4.ensures)
    c.put_told_named.ensures c.put_told_named-2.ensures c.put_told_type.ensures
