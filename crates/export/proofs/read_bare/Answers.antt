-- `export::read_bare` meets its contract: a text that is not UTF-8 is refused where the check stopped; any other is filled by the frame of no style.
use mathlib.Core.Path.{◌∙◌}
use native.Mathlib.Omega.{arith}
use Rattle.utf8.specs.Utf8Laws.{valid_within}
use Rattle.utf8.specs.CountLaws.{all_passed}
use Rattle.export.proofs.Bare.{bare_broken, bare_ample, bare_filled}
use Rattle.export.proofs.read_bare.Goals as goal

pub returns-then-valid-text : goal.returns-then-valid-text
returns-then-valid-text c = bare_broken _ _ _ c.requires c.check_in_place-checked.ensures.0 c.if-valid-text.true c.from.ensures

pub filled-requires : goal.filled-requires
filled-requires c =
    let t = c.args.text.now in
    let e = c.check_in_place-checked.ensures in
    (bare_ample t _ _ c.requires, e.1 ∙ all_passed t (omega (arith, valid_within t, e.0, c.if-valid-text.false)))

pub returns : goal.returns
returns c = bare_filled _ _ _ c.requires c.check_in_place-checked.ensures.0 c.if-valid-text.false c.filled.ensures
