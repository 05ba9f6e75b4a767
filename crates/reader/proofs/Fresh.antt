-- A call on a fresh text is the call. Rests on Reads and on `answer`'s laws.
use Prim.Native.Nat.{ℕ}
use mathlib.Core.Path.{◌≡◌, ◌∙◌, subst}
use mathlib.Core.List.{List}
use Rattle.reading.specs.Calls.{rooms_of, Read}
use Rattle.reading.specs.declared.Answer.{Answer}
use Rattle.reading.specs.declared.ErrorRecord.{ErrorRecord}
use Rattle.reading.specs.declared.Piece.{Piece}
use Rattle.reading.specs.declared.Request.{Request}
use Rattle.answer.specs.Asking.{freshly}
use Rattle.answer.specs.AskedLaws.{fresh_answer}
use Rattle.answer.specs.declared.Asked.{Asked}
use Rattle.reader.specs.Reads.{ReadBy}

pub fresh_read : (t s : List ℕ) (q : Request) {a : Asked} {ps ps' : List Piece} {es es' : List ErrorRecord} {ls ls' ns ns' : List ℕ} {r : Answer} →
    a ≡ freshly q → ReadBy t s a ps ps' es es' ls ls' ns ns' r → Read t s q ps ps' es es' ls ls' ns ns' r
fresh_read t s q {ps = ps} {ps' = ps'} {es = es} {es' = es'} {ls = ls} {ls' = ls'} {ns = ns} {ns' = ns'} {r = r} e y =
    let x : ReadBy t s (freshly q) ps ps' es es' ls ls' ns ns' r = subst (λ (a : Asked). ReadBy t s a ps ps' es es' ls ls' ns ns' r) e y in
    record { answer = x.answer ∙ fresh_answer t s q (rooms_of ps es ls ns); lists = x.lists }
