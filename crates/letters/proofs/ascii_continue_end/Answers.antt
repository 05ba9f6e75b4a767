-- `letters::ascii_continue_end` meets its contract. The invariant: the run of continuations from `i` ends where the run from `at`
-- does, since each turn passes a continuation. Assumes nothing.
use mathlib.Core.Path.{◌≡◌, refl, sym, ◌∙◌}
use native.Mathlib.Omega.{arith}
use Rattle.letters.specs.Questions.{is_continue}
use Rattle.utf8.specs.CharLaws.{ascii_more}
use Rattle.letters.specs.AsciiLaws.{ascii_continue_lem}
use Rattle.letters.proofs.SmallLetters.{continue_low}
use Rattle.letters.proofs.ascii_continue_end.Goals as goal

pub loop-i-init : goal.loop-i-init
loop-i-init c = (refl, omega arith)

pub returns-then-not-ascii_continue : goal.returns-then-not-ascii_continue
returns-then-not-ascii_continue c = record { same_end = c.loop-i.invariant.0; stops = λ _. sym c.ascii_continue.ensures ∙ c.if-not-ascii_continue.true }

pub loop-i-preserved : goal.loop-i-preserved
loop-i-preserved c =
    let y = sym c.ascii_continue.ensures ∙ c.if-not-ascii_continue.false in
    let b = continue_low _ y in
    (ascii_more is_continue c.args.text.now c.loop-i.i c.loop-i-test.true b (ascii_continue_lem _ b ∙ y) ∙ c.loop-i.invariant.0, omega arith)

pub returns : goal.returns
returns c =
    let e : c.max.result ≡ c.loop-i.i = omega arith in
    record { same_end = rw e c.loop-i.invariant.0; stops = λ h. absurd (omega arith) }
