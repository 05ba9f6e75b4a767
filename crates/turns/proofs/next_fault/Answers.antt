-- `turns::next_fault` meets its contract. The invariant: the faults from the slot at hand on are those from the first slot on.
-- The measure is how many steps are left: a step with no further fault is passed.
use native.Mathlib.Omega.{arith}
use mathlib.Core.Path.{refl, sym, ap, ◌∙◌}
use Rattle.turns.specs.Turns.{notes}
use Rattle.laws.specs.WantLaws.{few_step}
use Rattle.turns.proofs.Turning.{faults_none, faults_found, faults_over, faults_on, fresh_on}
use Rattle.turns.proofs.next_fault.Goals as goal

pub loop-on-init : goal.loop-on-init
loop-on-init c = (refl, c.requires.1, c.requires.2)

pub step_at-step-requires : goal.step_at-step-requires
step_at-step-requires c = (c.requires.0, omega (arith, c.loop-on.invariant.1.0.next))

pub returns-then-k-lt13 : goal.returns-then-k-lt13
unfolding notes
returns-then-k-lt13 c =
    let l = c.loop-on in
    let found =
    faults_found c.args.text.now c.args.frame c.args.mode l.on c.loop-on-test.true c.step_at-step.ensures
    l.from _ c.first_wrong-k.ensures c.if-k-lt13.true
    in
    record {
      says =
          rw (c.is_front.ensures, c.record_of.ensures, c.fault_at-fault.ensures)
          (ap (notes c.args.text.now c.args.frame) (sym found ∙ l.invariant.0));
      fresh = l.invariant.1;
      slots = omega (arith, c.if-k-lt13.true);
    }

pub go_on-requires : goal.go_on-requires
go_on-requires c = few_step _ _ _ _ (omega (arith, c.loop-on.invariant.1.0.next)) c.step_at-step.ensures

pub returns-in_err-state : goal.returns-in_err-state
unfolding notes
returns-in_err-state c =
    let l = c.loop-on in
    let over = sym c.go_on.ensures ∙ c.in_err-state.was in
    let none =
    faults_over c.args.text.now c.args.frame c.args.mode l.on c.loop-on-test.true c.step_at-step.ensures
    l.from _ c.first_wrong-k.ensures c.if-k-lt13.false over
    in
    rw c.from_residual.ensures
    record {
      says = ap (notes c.args.text.now c.args.frame) (sym none ∙ l.invariant.0);
      fresh = tt;
      slots = tt;
    }

pub loop-on-preserved : goal.loop-on-preserved
loop-on-preserved c =
    let l = c.loop-on in
    let some = c.loop-on-test.true in
    let step = c.step_at-step.ensures in
    let on = sym c.go_on.ensures ∙ c.in_ok-state.was in
    let rest =
    faults_on c.args.text.now c.args.frame c.args.mode l.on some step l.from _ c.first_wrong-k.ensures
    c.if-k-lt13.false on
    in
    (sym rest ∙ l.invariant.0, fresh_on c.args.text.now c.args.frame c.args.mode l.on some step on l.invariant.1, omega arith)

pub returns : goal.returns
unfolding notes
returns c =
    let l = c.loop-on in
    let none = faults_none c.args.text.now c.args.frame c.args.mode l.on l.from c.loop-on-test.false in
    record {
      says = ap (notes c.args.text.now c.args.frame) (sym none ∙ l.invariant.0);
      fresh = tt;
      slots = tt;
    }
