-- `totals::add_steps` meets its contract: the invariant (`Walk`) says that with what the steps left count the totals are as they are to be. A step that is
-- passed is counted already; else the run stands as it did, and takes the plain step.
use Rattle.std.specs.Prelude.{◌+◌, ◌-◌, ◌<◌, ◌≤◌, length}
use mathlib.Core.Path.{sym, ◌∙◌}
use native.Mathlib.Omega.{arith}
use Rattle.laws.specs.WantLaws.{few_step}
use Rattle.totals.proofs.Runs.{walk_start, walk_room, walk_none, walk_over, walk_on, walk_clear, walk_kept, both_clean, both_wrong}
use Rattle.totals.proofs.add_steps.Goals.{in-Some, in_default+in-Some-go_on, then-add_step, else-add_step}
use Rattle.totals.proofs.add_steps.Goals as goal

pub first_cursor-cursor-requires : goal.first_cursor-cursor-requires
first_cursor-cursor-requires c =
    c.requires.0.text

pub loop-init : goal.loop-init
loop-init c =
    rw c.first_cursor-cursor.ensures (length c.args.text.now + 1, omega arith, walk_start _ _ _ c.requires.0.text c.requires.1)

pub add_clear-requires : goal.add_clear-requires
add_clear-requires c =
    let more : 0 < c.loop.invariant.0 = omega (arith, c.loop.invariant.1, c.loop-test.true) in
    let inv = c.loop.invariant.2 in
    (c.requires.0, omega (arith, inv.kept.next), walk_room _ _ inv 2 (omega arith) more)

pub step_at-step-requires : goal.step_at-step-requires
step_at-step-requires c =
    (c.requires.0, omega (arith, c.loop.invariant.2.kept.next))

pub add_step-requires : goal.add_step-requires
add_step-requires c =
    let more : 0 < c.loop.invariant.0 = omega (arith, c.loop.invariant.1, c.loop-test.true) in
    let walk = walk_kept _ _ c.loop.invariant.2 c.in_default.ensures in
    (c.requires.0, walk_room _ _ walk 15 (omega arith) more)

pub go_on-requires : goal.go_on-requires
go_on-requires c =
    few_step _ _ _ _ (omega (arith, c.loop.invariant.2.kept.next)) c.step_at-step.ensures

pub returns-in_default-go_on : goal.returns-in_default-go_on
returns-in_default-go_on c =
    let more : 0 < c.loop.invariant.0 = omega (arith, c.loop.invariant.1, c.loop-test.true) in
    let walk = walk_kept _ _ c.loop.invariant.2 c.in_default.ensures in
    walk_over _ _ walk more c.step_at-step.ensures c.add_step.ensures.0 c.add_step.ensures.1
    (elim c.if-add_step.branch [
      | then-add_step w ↦ both_clean w.if-add_step.true w.sound-is
      | else-add_step w ↦ both_wrong _ w.if-add_step.false w.sound-is
    ])
    (sym c.go_on.ensures ∙ c.in_default-go_on.is)

pub loop-preserved : goal.loop-preserved
loop-preserved c =
    let more : 0 < c.loop.invariant.0 = omega (arith, c.loop.invariant.1, c.loop-test.true) in
    let inv = c.loop.invariant.2 in (
      c.loop.invariant.0 - 1,
      omega (arith, c.loop.invariant.1, c.loop-test.true),
      elim c.match-add_clear.branch [
        | in-Some w ↦ rw (w.totals-is, w.state-is, w.sound-is) (walk_clear _ _ inv w.in-Some.ensures more)
        | in_default+in-Some-go_on w ↦
            let walk = walk_kept _ _ inv w.in_default.ensures in
            rw (w.totals-is, w.state-is, w.sound-is)
            (walk_on _ _ walk more w.step_at-step.ensures w.add_step.ensures.0 w.add_step.ensures.1
            (elim w.if-add_step.branch [
              | then-add_step v ↦ both_clean v.if-add_step.true v.sound-is
              | else-add_step v ↦ both_wrong _ v.if-add_step.false v.sound-is
            ])
            (sym w.go_on.ensures ∙ w.in-Some-go_on.is))
      ],
    )

pub returns : goal.returns
returns c =
    let done : c.loop.invariant.0 ≤ 0 = omega (arith, c.loop.invariant.1, c.loop-test.false) in
    walk_none _ _ c.loop.invariant.2 done
