-- `spans::fill_lines` meets its contract. The invariant: with the lines that the steps left still have the list is as it is to be.
use Rattle.std.specs.Prelude.{◌+◌, ◌-◌, length}
use borrow.Author.Tests.{not-true, not-false}
use native.Mathlib.Omega.{arith}
use mathlib.Core.Path.{refl, sym, ap, ◌∙◌}
use mathlib.Core.List.{[], append-nil}
use Rattle.reading.specs.Steps.{reading}
use Rattle.laws.specs.StepLaws.{steps_none}
use Rattle.reading.specs.Written.{over, pairs}
use Rattle.spans.specs.Fills.{last_of}
use Rattle.laws.specs.WantLaws.{few_step}
use Rattle.laws.specs.WalkLaws.{kept_start, kept_on}
use Rattle.spans.proofs.Filling.{going_first, going_done, going_room, going_on, put_over}
use Rattle.laws.specs.ListLaws.{no_lines}
use Rattle.spans.proofs.Lining.{lines_left, lines_left_none, step_room, step_written, lines_all}
use Rattle.spans.proofs.fill_lines.Goals as goal

pub returns-then-not-frame : goal.returns-then-not-frame
unfolding over pairs
returns-then-not-frame c =
    let a = c.args in
    rw (no_lines a.text.now a.frame a.mode (not-true a.frame.literal c.if-not-frame.true))

pub to_snippet-requires : goal.to_snippet-requires
to_snippet-requires c = omega (arith, c.requires.0)

pub loop-init : goal.loop-init
unfolding reading
loop-init c =
    let a = c.args in (
      length a.text.now + 1,
      omega arith,
      rw (lines_all a.text.now a.frame a.mode (not-false a.frame.literal c.if-not-frame.false) c.to_snippet.ensures) (going_first _ _ _),
      kept_start a.text.now c.requires.0.text,
    )

pub step_at-step-requires : goal.step_at-step-requires
step_at-step-requires c = (c.requires.0, omega (arith, c.loop.invariant.3.next))

pub put_step-run-requires : goal.put_step-run-requires
put_step-run-requires c =
    let a = c.args in
    let l = c.loop in
    let (left, e, going, kept) = l.invariant in (
      c.requires.0,
      step_room a.text.now a.frame a.mode l.state c.step_at-step.ensures left (omega (arith, e, c.loop-test.true)) l.run
          (omega (arith, c.requires.1)) going,
    )

pub go_on-requires : goal.go_on-requires
go_on-requires c = few_step _ _ _ _ (omega (arith, c.loop.invariant.3.next)) c.step_at-step.ensures

pub put_last-requires : goal.put_last-requires
put_last-requires c =
    let a = c.args in
    let l = c.loop in
    let (left, e, going, kept) = l.invariant in
    let over = sym c.go_on.ensures ∙ c.in_default.is in
    let g =
    rw over at
    (step_written a.text.now a.frame a.mode l.state c.step_at-step.ensures left (omega (arith, e, c.loop-test.true)) l.run
    (omega (arith, c.requires.1)) going c.put_step-run.ensures)
    in
    going_room g (last_of a.frame c.put_step-run.result.line c.step_at-step.result) [] (sym (append-nil _)) (omega (arith, c.requires.1))

pub returns-in_default : goal.returns-in_default
returns-in_default c =
    let a = c.args in
    let l = c.loop in
    let (left, e, going, kept) = l.invariant in
    let over = sym c.go_on.ensures ∙ c.in_default.is in
    let g =
    rw over at
    (step_written a.text.now a.frame a.mode l.state c.step_at-step.ensures left (omega (arith, e, c.loop-test.true)) l.run
    (omega (arith, c.requires.1)) going c.put_step-run.ensures)
    in
    put_over
    (going_done
    (going_on g (last_of a.frame c.put_step-run.result.line c.step_at-step.result) [] (sym (append-nil _)) (omega (arith, c.requires.1))
    (record { count = refl; wrote = c.put_last.ensures }))
    refl)

pub loop-preserved : goal.loop-preserved
loop-preserved c =
    let a = c.args in
    let l = c.loop in
    let (left, e, going, kept) = l.invariant in
    let step = c.step_at-step.ensures in
    let on = sym c.go_on.ensures ∙ c.in-Some.is in (
      left - 1,
      omega (arith, e, c.loop-test.true),
      rw on at
          (step_written a.text.now a.frame a.mode l.state step left (omega (arith, e, c.loop-test.true)) l.run (omega (arith, c.requires.1))
          going c.put_step-run.ensures),
      kept_on a.text.now a.frame a.mode l.state step left (omega (arith, e, c.loop-test.true)) on kept,
    )

pub returns : goal.returns
returns c =
    let a = c.args in
    let l = c.loop in
    let (left, e, going, kept) = l.invariant in
    let none = steps_none a.text.now a.frame a.mode left l.state (omega (arith, e, c.loop-test.false)) in
    put_over
    (going_done going
    (ap (lines_left a.text.now a.frame l.run.line) none ∙ lines_left_none a.text.now a.frame l.run.line))
