-- The call leaves no choice: two results that its contract allows, with the output and the answer's list at exit, are equal. Rests on Calls.
use Rattle.std.specs.Prelude.{ℕ, ◌≡◌, List}
use Rattle.std.proofs.Common.{sym, ◌∙◌}
use Rattle.plains.specs.Calls.{Asked}

pub asked_one : {t : List ℕ} {mode : ℕ} {out o p answer a b : List ℕ} {r s : ℕ} → Asked t mode out o answer a r → Asked t mode out p answer b s →
    (r ≡ s) × (o ≡ p) × (a ≡ b)
asked_one x y = (x.number ∙ sym y.number, x.output ∙ sym y.output, x.told ∙ sym y.told)
