-- The public call: what it answers, and what its lists hold at exit, refused calls too.
use Rattle.std.specs.Prelude.{ℕ, ◌/◌, ◌≡◌, List, length}
use Rattle.reading.specs.declared.Piece.{Piece}
use Rattle.reading.specs.declared.ErrorRecord.{ErrorRecord}
use Rattle.reading.specs.Answers.{answer_of}
use Rattle.reading.specs.Exits.{Filled}
use Rattle.reading.specs.declared.Request.{Request}
use Rattle.reading.specs.declared.Rooms.{Rooms}
use Rattle.reading.specs.declared.Answer.{Answer}

-- how many records lists have room for: a span takes two numbers (R1.8)
unfoldable pub rooms_of : List Piece → List ErrorRecord → List ℕ → List ℕ → Rooms
rooms_of ps es ls ns = record { pieces = length ps; errors = length es; places = length ls / 2; lines = length ns / 2 }

-- a call: the answer, and the four lists before and after it (R1.2)
pub record Read (t s : List ℕ) (q : Request) (ps ps' : List Piece) (es es' : List ErrorRecord) (ls ls' ns ns' : List ℕ) (r : Answer) : Type 0 where
  pub answer : r ≡ answer_of t s q (rooms_of ps es ls ns)
  pub lists : Filled t s q r.number ps ps' es es' ls ls' ns ns'
