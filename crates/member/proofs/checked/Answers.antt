-- `member::checked` meets its contract. The invariant (`Walk`): what is met is what there is in the pieces so far, the pieces to come make them those
-- of the text, and the faults to come are those of the text.
use Rattle.std.specs.Prelude.{◌+◌, ◌-◌, ◌<◌, ◌≤◌, length}
use mathlib.Core.Path.{sym, ◌∙◌}
use native.Mathlib.Omega.{arith}
use Rattle.laws.specs.WantLaws.{few_step}
use Rattle.member.proofs.Meeting.{walk_start, walk_few, walk_none, walk_wrong, walk_over, walk_on, walk_clear}
use Rattle.member.proofs.checked.Goals.{in-Some, in_default+else-first_wrong-lt13+in-Some-go_on}
use Rattle.member.proofs.checked.Goals as goal

pub first_cursor-cursor-requires : goal.first_cursor-cursor-requires
first_cursor-cursor-requires c =
    c.requires.text

pub loop-init : goal.loop-init
loop-init c =
    rw c.first_cursor-cursor.ensures (length c.args.text.now + 1, omega arith, walk_start _ _ c.requires.text)

pub met_clear-requires : goal.met_clear-requires
met_clear-requires c =
    let small = c.requires in
    let inv = c.loop.invariant.2 in
    (small, omega (arith, inv.kept.next), walk_few _ _ small.text inv)

pub step_at-step-requires : goal.step_at-step-requires
step_at-step-requires c =
    let small = c.requires in
    (small, omega (arith, c.loop.invariant.2.kept.next))

pub returns-then-first_wrong-lt13 : goal.returns-then-first_wrong-lt13
returns-then-first_wrong-lt13 c =
    let more : 0 < c.loop.invariant.0 = omega (arith, c.loop.invariant.1, c.loop-test.true) in
    walk_wrong _ _ more c.loop.invariant.2 c.step_at-step.ensures
    c.first_wrong.ensures c.if-first_wrong-lt13.true

pub met_step-met-requires : goal.met_step-met-requires
met_step-met-requires c =
    walk_few _ _ c.requires.text c.loop.invariant.2

pub go_on-requires : goal.go_on-requires
go_on-requires c =
    few_step _ _ _ _ (omega (arith, c.loop.invariant.2.kept.next)) c.step_at-step.ensures

pub verdict_of-requires : goal.verdict_of-requires
verdict_of-requires c =
    tt

pub returns-in_default-go_on : goal.returns-in_default-go_on
returns-in_default-go_on c =
    let more : 0 < c.loop.invariant.0 = omega (arith, c.loop.invariant.1, c.loop-test.true) in
    c.verdict_of.ensures
    ∙ walk_over _ _ more c.loop.invariant.2 c.step_at-step.ensures
    c.first_wrong.ensures c.if-first_wrong-lt13.false c.met_step-met.ensures
    (sym c.go_on.ensures ∙ c.in_default-go_on.is)

pub loop-preserved : goal.loop-preserved
loop-preserved c =
    let more : 0 < c.loop.invariant.0 = omega (arith, c.loop.invariant.1, c.loop-test.true) in
    elim c.match-met_clear.branch [
      | in-Some w ↦
          let met = w.in-Some.ensures in
          rw (w.state-is, w.met-is) (c.loop.invariant.0 - 1, omega (arith, c.loop.invariant.1, more), walk_clear _ _ more c.loop.invariant.2 met.clear met.met)
      | in_default+else-first_wrong-lt13+in-Some-go_on w ↦
          rw (w.state-is, w.met-is) (
            c.loop.invariant.0 - 1,
            omega (arith, c.loop.invariant.1, more),
            walk_on _ _ more c.loop.invariant.2 w.step_at-step.ensures w.first_wrong.ensures w.if-first_wrong-lt13.false w.met_step-met.ensures
                (sym w.go_on.ensures ∙ w.in-Some-go_on.is),
          )
    ]

pub verdict_of-requires-2 : goal.verdict_of-requires-2
verdict_of-requires-2 c =
    tt

pub returns : goal.returns
returns c =
    let done : c.loop.invariant.0 ≤ 0 = omega (arith, c.loop.invariant.1, c.loop-test.false) in
    c.verdict_of-2.ensures ∙ walk_none _ _ done c.loop.invariant.2
