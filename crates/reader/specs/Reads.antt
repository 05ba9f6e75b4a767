-- A call whose text may be known beforehand. Rests on `answer`'s Asking and on the lists at exit.
use Rattle.std.specs.Prelude.{ℕ, ◌≡◌, List}
use Rattle.reading.specs.Calls.{rooms_of}
use Rattle.reading.specs.Exits.{Filled}
use Rattle.reading.specs.declared.Answer.{Answer}
use Rattle.reading.specs.declared.ErrorRecord.{ErrorRecord}
use Rattle.reading.specs.declared.Piece.{Piece}
use Rattle.answer.specs.Asking.{asked_answer}
use Rattle.answer.specs.declared.Asked.{Asked}

-- the answer, and the four lists before and after it
pub record ReadBy (t s : List ℕ) (a : Asked) (ps ps' : List Piece) (es es' : List ErrorRecord) (ls ls' ns ns' : List ℕ) (r : Answer) : Type 0 where
  pub answer : r ≡ asked_answer a t s (rooms_of ps es ls ns)
  pub lists : Filled t s a.request r.number ps ps' es es' ls ls' ns ns'
