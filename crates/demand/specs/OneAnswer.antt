-- NO FREEDOM: two results and lists that a public call's contract allows for the same call and the same lists are equal. The contracts of
-- more than one equation: `Read` of the call, `Exported` and `Counted` of those for other languages.
use Rattle.std.specs.Prelude.{◌≡◌, List, ℕ}
use Rattle.std.proofs.Common.{sym, ap, ◌∙◌}
use Rattle.reading.specs.Exits.{at_exit}
use Rattle.reading.specs.Calls.{Read}
use Rattle.reading.specs.declared.Answer.{Answer}
use Rattle.reading.specs.declared.ErrorRecord.{ErrorRecord}
use Rattle.reading.specs.declared.Piece.{Piece}
use Rattle.reading.specs.declared.Request.{Request}
use Rattle.words.specs.Calls.{Exported, Counted}

-- a list at exit, of calls with the same number
same_exit : {A : Type 0} {n k : ℕ} {a b : List A} (new old : List A) → n ≡ k → a ≡ at_exit n new old → b ≡ at_exit k new old → a ≡ b
same_exit new old e x y = x ∙ ap (λ (i : ℕ). at_exit i new old) e ∙ sym y

-- THE CALL
pub read_one : {t s : List ℕ} {q : Request} {ps a b : List Piece} {es c d : List ErrorRecord} {ls e f ns g h : List ℕ} {r k : Answer} →
    Read t s q ps a es c ls e ns g r → Read t s q ps b es d ls f ns h k → (r ≡ k) × (a ≡ b) × (c ≡ d) × (e ≡ f) × (g ≡ h)
read_one x y =
    let same = x.answer ∙ sym y.answer in
    let n = ap (λ (z : Answer). z.number) same in (
      same,
      same_exit _ _ n x.lists.pieces y.lists.pieces,
      same_exit _ _ n x.lists.errors y.lists.errors,
      same_exit _ _ n x.lists.places y.lists.places,
      same_exit _ _ n x.lists.lines y.lists.lines,
    )

-- THE CALL FOR OTHER LANGUAGES
pub exported_one : {t s : List ℕ} {q : Request} {ps a b es c d ls e f ns g h out o p : List ℕ} {r k : ℕ} →
    Exported t s q ps a es c ls e ns g out o r → Exported t s q ps b es d ls f ns h out p k →
    (r ≡ k) × (o ≡ p) × (a ≡ b) × (c ≡ d) × (e ≡ f) × (g ≡ h)
exported_one x y =
    let n = x.number ∙ sym y.number in (
      n,
      x.answer ∙ sym y.answer,
      same_exit _ _ n x.pieces y.pieces,
      same_exit _ _ n x.errors y.errors,
      same_exit _ _ n x.places y.places,
      same_exit _ _ n x.lines y.lines,
    )

-- AND ITS COUNT
pub counted_one : {t s : List ℕ} {q : Request} {out o p : List ℕ} {r k : ℕ} →
    Counted t s q out o r → Counted t s q out p k → (r ≡ k) × (o ≡ p)
counted_one x y = (x.number ∙ sym y.number, x.answer ∙ sym y.answer)
