-- `tally::tally` meets its contract. The invariant: the counts so far and what the steps from the state on come to are the
-- answer, and so is what was given back so far and what those steps give back; they come to the reading's last state; a turn adds at most 131,070 to
-- each count, 262,140 to what was given back, and four to the next argument's number.
use Rattle.std.specs.Prelude.{◌<◌, ◌-◌, length}
use Prim.Native.Nat.{◌+◌, ◌≤◌}
use mathlib.Core.Path.{◌≡◌, refl, sym, ap, ◌∙◌}
use native.Mathlib.Nat.{add-zero, zero-add}
use native.Mathlib.Omega.{arith}
use Rattle.reading.specs.Steps.{reading}
use Rattle.tally.proofs.CountLaws.{sum_zero, counts_all, countable_sum, clear_counts, one_more_lem, one_countable, turn_more, turn_over, turn_none}
use Rattle.laws.specs.WalkLaws.{kept_start, kept_on}
use Rattle.laws.specs.WantLaws.{few_step}
use Rattle.laws.specs.MoveLaws.{given as back, given_on, given_last, given_few, given_none}
use Rattle.laws.proofs.MovesTold.{moves_over}
use Rattle.laws.specs.StateLaws.{last_on, last_over, last_none, arguments_all}
use Rattle.reading.specs.declared.State.{State}
use Rattle.tally.proofs.tally.Goals.{After-given_by-given, In-Some}
use Rattle.tally.proofs.tally.Goals.{in-Some, in_default+in-Some-go_on}
use Rattle.tally.proofs.tally.Goals as goal

pub loop-init : goal.loop-init
unfolding reading back
loop-init c =
    (length c.args.text.now + 1, omega arith, sum_zero _ ∙ counts_all _ _ _, omega arith, omega arith, kept_start c.args.text.now c.requires.0.text, refl, zero-add _, omega arith)

pub pass_piece-requires : goal.pass_piece-requires
pass_piece-requires c = (c.requires.0, omega (arith, c.loop.invariant.5.next))

pub one_piece_more-counts-requires : goal.one_piece_more-counts-requires
one_piece_more-counts-requires c = omega (arith, c.requires.0.text, c.loop.invariant.3, c.loop.invariant.4)

-- what a step that is passed gives back
few_passed : (c : In-Some) → c.in-Some.passed.given ≤ 262140
few_passed c =
    let a = c.args in
    omega (arith, c.in-Some.ensures.0.given, given_few a.text.now a.frame a.mode c.loop.state refl, c.requires.0.text)

pub overflow_add-given : goal.overflow_add-given
overflow_add-given c =
    let loop = c.loop in
    omega (arith, few_passed (goal.at.overflow_add-given c).In-Some, loop.invariant.8, loop.invariant.4, c.requires.0.text)

pub step_at-step-requires : goal.step_at-step-requires
step_at-step-requires c =
    let small = c.requires.0 in
    (small, omega (arith, c.loop.invariant.5.next))

pub step_counts-requires : goal.step_counts-requires
step_counts-requires c = c.requires.0

pub add-counts-requires : goal.add-counts-requires
add-counts-requires c =
    (omega (arith, c.requires.0.text, c.loop.invariant.3), c.step_counts.ensures.1)

-- what a step gives back
few : (c : After-given_by-given) → c.given_by-given.result ≤ 262140
few c =
    omega (arith, c.given_by-given.ensures, given_few _ _ _ _ c.step_at-step.ensures, c.requires.0.text)

pub overflow_add-given-in_default : goal.overflow_add-given-in_default
overflow_add-given-in_default c =
    let loop = c.loop in
    omega (arith, few (goal.at.overflow_add-given-in_default c).After-given_by-given, loop.invariant.8, loop.invariant.4, c.requires.0.text)

pub go_on-requires : goal.go_on-requires
go_on-requires c =
    few_step _ _ _ _ (omega (arith, c.loop.invariant.5.next)) c.step_at-step.ensures

-- the sum is small, with the step at hand
sum_few : (c : After-given_by-given) →
    let loop = c.loop in
    loop.given + c.given_by-given.result ≤ 0xFFFFFFFFFFFF
sum_few c =
    let loop = c.loop in
    omega (arith, few c, loop.invariant.8, loop.invariant.4, c.requires.0.text)

pub finished-requires : goal.finished-requires
finished-requires c =
    (c.requires.1, c.requires.0.text, sum_few (goal.at.finished-requires c).After-given_by-given)

pub returns-in_default-go_on : goal.returns-in_default-go_on
returns-in_default-go_on c =
    let counted = c.step_counts.ensures.0 in
    let step = c.step_at-step.ensures in
    let on = c.go_on.ensures in
    let over = c.in_default-go_on.is in
    let loop = c.loop in
    let more : 0 < loop.invariant.0 = omega (arith, loop.invariant.1, c.loop-test.true) in
    let last = sym (last_over _ _ _ _ step loop.invariant.0 (sym on ∙ over)) ∙ loop.invariant.6 in
    let sum : loop.given + c.given_by-given.result ≡ back _ _ _ =
    ap (◌+◌ loop.given) (c.given_by-given.ensures ∙ sym (given_last _ _ _ _ step loop.invariant.0 more (sym on ∙ over))) ∙ loop.invariant.7 in
    rw c.finished.ensures (
      turn_over _ _ _ _ _ loop.counts more step on counted c.add-counts.ensures over ∙ loop.invariant.2,
      ap (λ (s : State). s.arguments) last ∙ arguments_all _ _ _,
      moves_over _ _ _ _ _ last sum,
    )

pub loop-preserved : goal.loop-preserved
loop-preserved c =
    let a = c.args in
    let loop = c.loop in
    let small = c.requires.0 in
    let more : 0 < loop.invariant.0 = omega (arith, loop.invariant.1, c.loop-test.true) in
    elim c.match-pass_piece.branch [
      | in-Some w ↦
          let clear = w.in-Some.ensures.0.clear in
          let counted = clear_counts _ _ _ _ clear w.in-Some.ensures.1 in
          let added = one_more_lem loop.counts w.one_piece_more-counts.ensures counted in
          let given = given_on _ _ _ loop.state refl loop.invariant.0 more clear.goes in
          let few : w.in-Some.passed.given ≤ 262140 =
          omega (arith, w.in-Some.ensures.0.given, given_few a.text.now a.frame a.mode loop.state refl, small.text) in
          rw (w.state-is, w.counts-is, w.given-is) (
            loop.invariant.0 - 1,
            omega (arith, loop.invariant.1, more),
            turn_more _ _ _ _ _ loop.counts more refl refl refl added clear.goes ∙ loop.invariant.2,
            countable_sum loop.invariant.3 (one_countable counted) added (omega (arith, more, loop.invariant.4)),
            omega (arith, loop.invariant.4),
            kept_on _ _ _ loop.state refl loop.invariant.0 more clear.goes loop.invariant.5,
            sym (last_on _ _ _ loop.state refl loop.invariant.0 more clear.goes) ∙ loop.invariant.6,
            omega (arith, w.in-Some.ensures.0.given, given, loop.invariant.7),
            omega (arith, few, more, loop.invariant.4, loop.invariant.8),
          )
      | in_default+in-Some-go_on w ↦
          let step = w.step_at-step.ensures in
          let counted = w.step_counts.ensures in
          let added = w.add-counts.ensures in
          let on = w.go_on.ensures in
          let after = w.in-Some-go_on.is in
          let given = given_on _ _ _ loop.state step loop.invariant.0 more (sym on ∙ after) in
          let few : w.given_by-given.result ≤ 262140 = omega (arith, w.given_by-given.ensures, given_few _ _ _ _ step, small.text) in
          rw (w.state-is, w.counts-is, w.given-is) (
            loop.invariant.0 - 1,
            omega (arith, loop.invariant.1, more),
            turn_more _ _ _ _ _ loop.counts more step on counted.0 added after ∙ loop.invariant.2,
            countable_sum loop.invariant.3 counted.1 added (omega (arith, more, loop.invariant.4)),
            omega (arith, loop.invariant.4),
            kept_on _ _ _ loop.state step loop.invariant.0 more (sym on ∙ after) loop.invariant.5,
            sym (last_on _ _ _ loop.state step loop.invariant.0 more (sym on ∙ after)) ∙ loop.invariant.6,
            omega (arith, w.given_by-given.ensures, given, loop.invariant.7),
            omega (arith, few, more, loop.invariant.4, loop.invariant.8),
          )
    ]

pub finished-requires-2 : goal.finished-requires-2
finished-requires-2 c =
    let loop = c.loop in
    (c.requires.1, c.requires.0.text, omega (arith, loop.invariant.8, loop.invariant.4, c.requires.0.text))

pub returns : goal.returns
returns c =
    let loop = c.loop in
    let done : loop.invariant.0 ≤ 0 = omega (arith, loop.invariant.1, c.loop-test.false) in
    let last = sym (last_none _ _ _ loop.state loop.invariant.0 done) ∙ loop.invariant.6 in
    let sum : loop.given ≡ back _ _ _ =
    sym (add-zero loop.given) ∙ ap (◌+◌ loop.given) (sym (given_none _ _ _ loop.state loop.invariant.0 done)) ∙ loop.invariant.7 in
    rw c.finished-2.ensures (
      turn_none _ _ _ _ _ loop.counts done ∙ loop.invariant.2,
      ap (λ (s : State). s.arguments) last ∙ arguments_all _ _ _,
      moves_over _ _ _ _ _ last sum,
    )
