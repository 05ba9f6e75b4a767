-- `spans::fill_places` meets its contract. The invariant: with the argument places of the steps that are left the list is as it is
-- to be.
use Rattle.std.specs.Prelude.{◌+◌, ◌-◌, length}
use borrow.Author.Tests.{not-true, not-false}
use native.Mathlib.Omega.{arith}
use mathlib.Core.Path.{refl, sym, ap, ◌∙◌}
use mathlib.Core.List.{[]}
use Rattle.reading.specs.Steps.{reading}
use Rattle.laws.specs.StepLaws.{steps_none}
use Rattle.reading.specs.Lists.{gather, places_of}
use Rattle.reading.specs.Written.{over, pairs}
use Rattle.laws.specs.WantLaws.{few_step}
use Rattle.laws.specs.WalkLaws.{kept_start, kept_on}
use Rattle.spans.proofs.Filling.{going_first, going_done, going_room, going_on, put_over}
use Rattle.laws.specs.ListLaws.{no_places}
use Rattle.spans.proofs.Lining.{places_some, places_all}
use Rattle.spans.proofs.fill_places.Goals as goal

pub returns-then-not-frame : goal.returns-then-not-frame
unfolding over pairs
returns-then-not-frame c =
    let a = c.args in
    rw (no_places a.text.now a.frame a.mode (not-true a.frame.literal c.if-not-frame.true))

pub loop-init : goal.loop-init
unfolding reading
loop-init c =
    let a = c.args in (
      length a.text.now + 1,
      omega arith,
      rw (places_all a.text.now a.frame a.mode (not-false a.frame.literal c.if-not-frame.false)) (going_first _ _ _),
      kept_start a.text.now c.requires.0.text,
    )

pub step_at-step-requires : goal.step_at-step-requires
step_at-step-requires c =
    let (left, e, going, kept) = c.loop.invariant in
    (c.requires.0, omega (arith, kept.next))

pub put_place-n-requires : goal.put_place-n-requires
put_place-n-requires c =
    let a = c.args in
    let l = c.loop in
    let (left, e, going, kept) = l.invariant in
    let all = places_some a.text.now a.frame a.mode l.state c.step_at-step.ensures left (omega (arith, e, c.loop-test.true)) in
    (c.requires.0, going_room going (places_of a.text.now a.frame c.step_at-step.result) _ all (omega (arith, c.requires.1)))

pub go_on-requires : goal.go_on-requires
go_on-requires c =
    let (left, e, going, kept) = c.loop.invariant in
    few_step _ _ _ _ (omega (arith, kept.next)) c.step_at-step.ensures

pub returns-in_default : goal.returns-in_default
unfolding gather
returns-in_default c =
    let a = c.args in
    let l = c.loop in
    let (left, e, going, kept) = l.invariant in
    let all = places_some a.text.now a.frame a.mode l.state c.step_at-step.ensures left (omega (arith, e, c.loop-test.true)) in
    let over = sym c.go_on.ensures ∙ c.in_default.is in
    put_over
    (going_done
    (going_on going (places_of a.text.now a.frame c.step_at-step.result) [] (rw over at all) (omega (arith, c.requires.1))
    c.put_place-n.ensures)
    refl)

pub loop-preserved : goal.loop-preserved
loop-preserved c =
    let a = c.args in
    let l = c.loop in
    let (left, e, going, kept) = l.invariant in
    let step = c.step_at-step.ensures in
    let all = places_some a.text.now a.frame a.mode l.state step left (omega (arith, e, c.loop-test.true)) in
    let on = sym c.go_on.ensures ∙ c.in-Some.is in (
      left - 1,
      omega (arith, e, c.loop-test.true),
      going_on going (places_of a.text.now a.frame c.step_at-step.result) _ (rw on at all) (omega (arith, c.requires.1))
          c.put_place-n.ensures,
      kept_on a.text.now a.frame a.mode l.state step left (omega (arith, e, c.loop-test.true)) on kept,
    )

pub returns : goal.returns
unfolding gather
returns c =
    let a = c.args in
    let l = c.loop in
    let (left, e, going, kept) = l.invariant in
    let none = steps_none a.text.now a.frame a.mode left l.state (omega (arith, e, c.loop-test.false)) in
    put_over (going_done going (ap (gather (places_of a.text.now a.frame)) none))
