-- `faults::first_wrong` meets its contract. A step with nothing wrong is not walked over. The invariant: the slots from the first to k are clean.
use native.Mathlib.Omega.{arith}
use mathlib.Core.Path.{◌≡◌, ap, sym, ◌∙◌}
use Rattle.reading.specs.Faults.{is_clean, step_slots, wrong}
use Rattle.laws.specs.FaultLaws.{clean_slot, clear_drop}
use Rattle.faults.proofs.first_wrong.Goals as goal

pub returns-then-is_clear : goal.returns-then-is_clear
unfolding wrong
returns-then-is_clear c =
    let none = c.is_clear.ensures c.if-is_clear.true in
    record {
      from = c.requires;
      most = omega arith;
      skipped = clear_drop (step_slots c.args.step) c.args.slot none ∙ sym (clear_drop (step_slots c.args.step) 13 none);
      found = λ h. absurd (omega arith);
    }

pub returns-then-not-is_clean : goal.returns-then-not-is_clean
returns-then-not-is_clean c =
    record {
      from = omega arith;
      most = omega arith;
      skipped = c.loop-k.invariant;
      found = λ _. ap is_clean (sym c.fault_at.ensures) ∙ sym c.is_clean.ensures ∙ c.if-not-is_clean.true;
    }

pub loop-k-preserved : goal.loop-k-preserved
loop-k-preserved c =
    let clean = ap is_clean (sym c.fault_at.ensures) ∙ sym c.is_clean.ensures ∙ c.if-not-is_clean.false in
    c.loop-k.invariant ∙ clean_slot _ c.loop-k.k clean

pub returns : goal.returns
returns c =
    let past : c.loop-k.k ≡ 13 = omega (arith, c.loop-k.auto.k-end c.requires) in
    record { from = c.requires; most = omega arith; skipped = rw past at c.loop-k.invariant; found = λ h. absurd (omega arith) }
