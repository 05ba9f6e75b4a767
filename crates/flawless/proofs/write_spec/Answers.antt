-- `flawless::write_spec` meets its contract: a short spec is told and written, another as any.
use mathlib.Core.Path.{◌≡◌}
use native.Mathlib.Omega.{arith}
use lib.ListN.{length}
use Rattle.words.specs.Layout.{spec_words}
use Rattle.words.specs.LaidLaws.{spec_words_length}
use Rattle.quick.specs.Tellings.{spec_of}
use Rattle.told.proofs.Spoiling.{spoilt_laid}
use Rattle.flawless.proofs.write_spec.Goals as goal

pub put_told_spec-requires : goal.put_told_spec-requires
put_told_spec-requires c = let s = c.in-Some.ensures in (c.requires.0, c.requires.2, s.wide, s.precise)

pub returns-in-Some : goal.returns-in-Some
returns-in-Some c =
    let a = c.args in
    let s = c.in-Some in
    let ws = spec_words (spec_of a.text.now a.frame a.at a.next s.short) in
    let n : length ws ≡ 32 = spec_words_length (spec_of a.text.now a.frame a.at a.next s.short) in
    (spoilt_laid a.out.now a.k ws (omega (arith, n, c.requires.2)) c.put_told_spec.ensures n, record { known = s.ensures.known; ends = s.ensures.ends; wrote = c.put_told_spec.ensures })
