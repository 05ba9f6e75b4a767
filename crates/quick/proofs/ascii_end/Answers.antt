-- `quick::ascii_end` meets its contract. The invariant: the run of continuations from `i` ends where the run from `at`
-- does, since each turn passes a continuation, and has as many characters more.
use mathlib.Core.Path.{◌≡◌, refl, sym, ◌∙◌}
use native.Mathlib.Omega.{arith}
use Rattle.letters.specs.Questions.{is_continue}
use Rattle.utf8.specs.CharLaws.{ascii_more}
use Rattle.letters.specs.AsciiLaws.{ascii_continue_lem}
use Rattle.letters.proofs.SmallLetters.{continue_low}
use Rattle.quick.proofs.Bytes.{ascii_one}
use Rattle.quick.proofs.ascii_end.Goals as goal

pub loop-i-init : goal.loop-i-init
loop-i-init c = (refl, omega arith, λ e h. refl)

pub returns-then-not-continues : goal.returns-then-not-continues
returns-then-not-continues c =
    let inv = c.loop-i.invariant in
    record { run = inv.0; ends = λ _. sym c.continues.ensures ∙ c.if-not-continues.true; on = omega arith; chars = inv.2 }

pub loop-i-preserved : goal.loop-i-preserved
loop-i-preserved c =
    let y = sym c.continues.ensures ∙ c.if-not-continues.false in
    let b = continue_low _ y in
    let t = c.args.text.now in
    let i = c.loop-i.i in
    let inv = c.loop-i.invariant in (
      ascii_more is_continue t i c.loop-i-test.true b (ascii_continue_lem _ b ∙ y) ∙ inv.0,
      omega arith,
      λ e h. ascii_one t i c.loop-i-test.true b e h ∙ inv.2 e (omega (arith, h)),
    )

pub returns : goal.returns
returns c =
    let inv = c.loop-i.invariant in
    let e : c.max.result ≡ c.loop-i.i = omega (arith, inv.1) in
    record { run = rw e inv.0; ends = λ h. absurd (omega arith); on = omega arith; chars = rw e inv.2 }
