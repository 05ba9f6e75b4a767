-- The call leaves no choice: two results that its contract allows, with the answer's list at exit, are equal. Rests on Calls.
use Rattle.std.specs.Prelude.{ℕ, ◌≡◌, List}
use Rattle.std.proofs.Common.{sym, ◌∙◌}
use Rattle.reading.specs.declared.Request.{Request}
use Rattle.verdicts.specs.Calls.{Asked}

pub asked_one : {t s : List ℕ} {q : Request} {out o p : List ℕ} {r k : ℕ} → Asked t s q out o r → Asked t s q out p k → (r ≡ k) × (o ≡ p)
asked_one x y = (x.number ∙ sym y.number, x.answer ∙ sym y.answer)
