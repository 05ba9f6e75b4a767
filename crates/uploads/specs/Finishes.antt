-- The finish: the answer on the bytes that were taken, by the check that was carried. Rests on Parts and on the reader's answer.
use Rattle.std.specs.Prelude.{ℕ, ◌≡◌, List, eqb, take}
use Rattle.utf8.specs.Choice.{pick}
use Rattle.reading.specs.Calls.{rooms_of}
use Rattle.reading.specs.Exits.{Filled}
use Rattle.laws.specs.Deciding.{refused_as, early_number, late_answer, counted_answer}
use Rattle.reading.specs.declared.Answer.{Answer}
use Rattle.reading.specs.declared.ErrorRecord.{ErrorRecord}
use Rattle.reading.specs.declared.Piece.{Piece}
use Rattle.reading.specs.declared.Request.{Request}
use Rattle.reading.specs.declared.Rooms.{Rooms}
use Rattle.uploads.specs.declared.Upload.{Upload}
use Rattle.uploads.specs.Parts.{is_unfit}

-- the bytes that were taken
abbrev pub taken : Upload → List ℕ → List ℕ
taken u b = take u.count b

-- the refusals of a reading in their order, with what was carried in the place of two checks: 3 where a part was left out too, 4 by the place up to
-- which the bytes were found UTF-8 (R16.6)
abbrev pub unless_carried : Upload → List ℕ → List ℕ → Request → Answer → Answer
unless_carried u t s q a =
    let early = early_number u.over t s q in
    pick (eqb early 0) (late_answer u.valid t q a) (refused_as early 0)

-- THE FINISH'S ANSWER, for any state and any buffer (R16.6)
unfoldable pub finish_answer : Upload → List ℕ → List ℕ → Request → Rooms → Answer
finish_answer u b s q r = pick (is_unfit u b) (refused_as 16 0) (unless_carried u (taken u b) s q (counted_answer (taken u b) s q r))

-- A FINISH: its answer, and the four lists before and after it (R16.6)
pub record Finished (u : Upload) (b s : List ℕ) (q : Request) (ps ps' : List Piece) (es es' : List ErrorRecord) (ls ls' ns ns' : List ℕ) (r : Answer) : Type 0 where
  pub answer : r ≡ finish_answer u b s q (rooms_of ps es ls ns)
  pub lists : Filled (taken u b) s q r.number ps ps' es es' ls ls' ns ns'
