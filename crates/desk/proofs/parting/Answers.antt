-- Where a byte differs, or one of the lists ends, nothing more is shared; a byte that is the same is shared.
use Rattle.std.proofs.Common.{arith, ◌≡◌, ℕ, ◌≤◌, ◌⊎◌, inl, inr, min, List, length, sym, ◌∙◌}
use Rattle.desk.specs.PartingLaws.{shared_more, shared_stop, shared_end, shared_past}
use Rattle.desk.proofs.parting.Goals as goal

pub returns-then-a-i : goal.returns-then-a-i
returns-then-a-i c = sym (shared_stop _ _ _ (omega arith) (omega arith) c.if-a-i.true) ∙ c.loop-i.invariant

pub loop-i-preserved : goal.loop-i-preserved
loop-i-preserved c = shared_more _ _ _ (omega arith) (omega arith) c.if-a-i.false ∙ c.loop-i.invariant

-- one of the lists ends where both are looked through
ends : (a b : List ℕ) (most i : ℕ) → most ≡ min (length a) (length b) → most ≤ i → (length a ≤ i) ⊎ (length b ≤ i)
ends a b most i e h = grind arith

pub returns : goal.returns
returns c =
    let i : c.loop-i.i ≡ c.min-most.result = omega arith in
    elim (ends c.args.a.now c.args.b.now _ _ c.min-most.ensures c.loop-i-test.false) [
      | inl h ↦ sym i ∙ sym (shared_end _ _ _ h) ∙ c.loop-i.invariant
      | inr h ↦ sym i ∙ sym (shared_past _ _ _ h) ∙ c.loop-i.invariant
    ]
