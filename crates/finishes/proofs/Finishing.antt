-- A call on the bytes that were taken, with what was carried, is the finish. Rests on Finishes, Reads and AskLaws.
use Prim.Native.Nat.{ℕ}
use mathlib.Core.Path.{◌≡◌, ◌∙◌, subst}
use mathlib.Core.List.{List}
use Rattle.reading.specs.Calls.{rooms_of}
use Rattle.reading.specs.declared.Answer.{Answer}
use Rattle.reading.specs.declared.ErrorRecord.{ErrorRecord}
use Rattle.reading.specs.declared.Piece.{Piece}
use Rattle.reading.specs.declared.Request.{Request}
use Rattle.answer.specs.declared.Asked.{Asked}
use Rattle.reader.specs.Reads.{ReadBy}
use Rattle.uploads.specs.Finishes.{taken, Finished}
use Rattle.uploads.specs.declared.Upload.{Upload}
use Rattle.upload.specs.Asks.{asked_of}
use Rattle.upload.specs.AskLaws.{asks_finish}

pub finished_by : (u : Upload) (b s : List ℕ) (q : Request) {t : List ℕ} {a : Asked} {ps ps' : List Piece} {es es' : List ErrorRecord} {ls ls' ns ns' : List ℕ} {r : Answer} →
    t ≡ taken u b → a ≡ asked_of u b q → ReadBy t s a ps ps' es es' ls ls' ns ns' r → Finished u b s q ps ps' es es' ls ls' ns ns' r
finished_by u b s q {t = t} {ps = ps} {ps' = ps'} {es = es} {es' = es'} {ls = ls} {ls' = ls'} {ns = ns} {ns' = ns'} {r = r} c e y =
    let z : ReadBy t s (asked_of u b q) ps ps' es es' ls ls' ns ns' r = subst (λ (a : Asked). ReadBy t s a ps ps' es es' ls ls' ns ns' r) e y in
    let x : ReadBy (taken u b) s (asked_of u b q) ps ps' es es' ls ls' ns ns' r = subst (λ (k : List ℕ). ReadBy k s (asked_of u b q) ps ps' es es' ls ls' ns ns' r) c z in
    record { answer = x.answer ∙ asks_finish u b s q (rooms_of ps es ls ns); lists = x.lists }
