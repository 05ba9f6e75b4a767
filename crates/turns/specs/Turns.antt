-- A run over the steps of a text, a piece or a fault at a time: what is left to come at a cursor.
use Rattle.std.specs.Prelude.{ℕ, ◌+◌, ◌≤◌, ◌≡◌, Bool, List, [], ◌∷◌, ◌++◌, length, drop, Option, None, Some, IfSome}
use Rattle.utf8.specs.Choice.{pick}
use Rattle.frame.specs.declared.Frame.{Frame}
use Rattle.frame.specs.declared.Mode.{Mode}
use Rattle.reading.specs.Steps.{start, steps_from}
use Rattle.reading.specs.Faults.{step_slots, wrong, Finding, marked}
use Rattle.reading.specs.Records.{is_front, record_of}
use Rattle.reading.specs.Lists.{gather, pieces_of, findings}
use Rattle.reading.specs.declared.Step.{Step}
use Rattle.reading.specs.declared.Piece.{Piece}
use Rattle.reading.specs.declared.ErrorRecord.{ErrorRecord}
use Rattle.laws.specs.WalkLaws.{Kept}
use Rattle.turns.specs.declared.Cursor.{Cursor}
use Rattle.turns.specs.declared.PieceTurn.{PieceTurn}
use Rattle.turns.specs.declared.FaultTurn.{FaultTurn}

-- the start of a text
abbrev pub first_cursor : List ℕ → Cursor
first_cursor t = record { state = start; left = length t + 1; pieces = 0 }

-- a cursor that a run has: no more pieces than there were steps
abbrev pub Fresh : Cursor → Type 0
Fresh c = Kept c.left c.state × (c.pieces + c.left ≤ 0x10000)

-- the steps from a cursor on
abbrev pub steps_at : List ℕ → Frame → Mode → Cursor → List Step
steps_at t f m c = steps_from c.left t f m c.state

-- PIECES
-- each step but the last has one
abbrev pub piece_of : Step → Option Piece
piece_of Step.End = None
piece_of (Step.Stop p) = None
piece_of (Step.Literal r) = Some (Piece.Literal r)
piece_of (Step.Placeholder p) = Some (Piece.Placeholder p.argument)

-- the pieces from a cursor on
unfoldable pub pieces_at : List ℕ → Frame → Mode → Cursor → List Piece
pieces_at t f m c = gather pieces_of (steps_at t f m c)

-- the turn's piece and those after it
abbrev pub pieces_turn : List ℕ → Frame → Mode → Option PieceTurn → List Piece
pieces_turn t f m None = []
pieces_turn t f m (Some r) = r.piece ∷ pieces_at t f m r.cursor

-- what a turn says: its piece and those after it are those from the cursor on
pub record PieceNext (t : List ℕ) (f : Frame) (m : Mode) (c : Cursor) (r : Option PieceTurn) : Type 0 where
  pub says : pieces_turn t f m r ≡ pieces_at t f m c
  pub fresh : IfSome r (λ x. Fresh x.cursor)

-- ERROR RECORDS
-- the findings of the first of some steps from a slot on, where so many pieces were listed, and of the steps after it
abbrev pub faults_in : ℕ → ℕ → List Step → List Finding
faults_in slot n [] = []
faults_in slot n (x ∷ xs) = marked n (wrong (drop slot (step_slots x))) ++ findings (n + length (pieces_of x)) xs

-- those from a slot of the step at a cursor on
unfoldable pub faults_at : List ℕ → Frame → Mode → Cursor → ℕ → List Finding
faults_at t f m c slot = faults_in slot c.pieces (steps_at t f m c)

-- a record, and whether it is put at the front
pub record Note : Type 0 where
  pub front : Bool
  pub entry : ErrorRecord

abbrev pub note : Bool → ErrorRecord → Note
note x e = record { front = x; entry = e }

unfoldable pub notes : List ℕ → Frame → List Finding → List Note
notes t f [] = []
notes t f (x ∷ xs) = note (is_front x.fault) (record_of t f x.piece x.fault) ∷ notes t f xs

-- the turn's record and those after it
abbrev pub notes_turn : List ℕ → Frame → Mode → Option FaultTurn → List Note
notes_turn t f m None = []
notes_turn t f m (Some r) = note r.front r.record ∷ notes t f (faults_at t f m r.cursor r.slot)

-- what a turn says: its record and those after it are those from the slot on
pub record FaultNext (t : List ℕ) (f : Frame) (m : Mode) (c : Cursor) (slot : ℕ) (r : Option FaultTurn) : Type 0 where
  pub says : notes_turn t f m r ≡ notes t f (faults_at t f m c slot)
  pub fresh : IfSome r (λ x. Fresh x.cursor)
  pub slots : IfSome r (λ x. x.slot ≤ 13)

-- the list that records leave, each added at the back or put at the front
unfoldable pub posted : List ErrorRecord → List Note → List ErrorRecord
posted es [] = es
posted es (x ∷ xs) = posted (pick x.front (x.entry ∷ es) (es ++ (x.entry ∷ []))) xs
