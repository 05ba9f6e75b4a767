-- What the functions that write a step come to, part by part. Rests on words' Layout and reading's Steps, Faults and Lists.
use Rattle.std.specs.Prelude.{ℕ, ◌+◌, ◌-◌, ◌*◌, ◌≤◌, ◌≡◌, List, [], ◌∷◌, eqb, length}
use Rattle.utf8.specs.Choice.{pick}
use Rattle.frame.specs.declared.Frame.{Frame}
use Rattle.frame.specs.declared.Mode.{Mode}
use Rattle.reading.specs.Faults.{step_slots, wrong, Finding, marked}
use Rattle.reading.specs.Lists.{gather, pieces_of, front_only, back_only}
use Rattle.reading.specs.Records.{is_front, record_of}
use Rattle.reading.specs.Steps.{step_at, onward}
use Rattle.laws.specs.MoveLaws.{given_by}
use Rattle.reading.specs.declared.ErrorRecord.{ErrorRecord}
use Rattle.reading.specs.declared.Fault.{Fault}
use Rattle.reading.specs.declared.State.{State}
use Rattle.reading.specs.declared.Step.{Step}
use Rattle.words.specs.Laid.{laid}
use Rattle.words.specs.Layout.{piece_words, error_words}
use Rattle.writing.specs.declared.Extent.{Extent}
use Rattle.writing.specs.declared.StepWritten.{StepWritten}

-- ERROR RECORDS: the list, where its records begin and end, and how many of the front were met
pub record Noted : Type 0 where
  pub low : ℕ
  pub high : ℕ
  pub fronts : ℕ
  pub list : List ℕ

abbrev pub noted_by : Extent → List ℕ → Noted
noted_by m es = record { low = m.low; high = m.high; fronts = m.fronts; list = es }

-- a record of the back goes after those that are written
abbrev pub at_back : ErrorRecord → Noted → Noted
at_back e s =
    record {
      low = s.low;
      high = s.high + 1;
      fronts = s.fronts;
      list = laid s.list (16 * s.high) (error_words e);
    }

-- one of the front before them, and where there is no room before them it is only counted
abbrev pub counted : Noted → Noted
counted s = record { low = 0; high = s.high; fronts = s.fronts + 1; list = s.list }

abbrev pub at_front : ErrorRecord → Noted → Noted
at_front e s =
    record {
      low = s.low - 1;
      high = s.high;
      fronts = s.fronts + 1;
      list = laid s.list (16 * (s.low - 1)) (error_words e);
    }

-- a finding's record
unfoldable pub note : List ℕ → Frame → Noted → Finding → Noted
note t f s x =
    pick (is_front x.fault) (pick (eqb s.low 0) (counted s) (at_front (record_of t f x.piece x.fault) s))
    (at_back (record_of t f x.piece x.fault) s)

-- those of some findings, one after the other
unfoldable pub notes : List ℕ → Frame → Noted → List Finding → Noted
notes t f s [] = s
notes t f s (x ∷ xs) = notes t f (note t f s x) xs

-- what is wrong of some slots, where so many pieces were listed
unfoldable pub noticed : ℕ → List Fault → List Finding
noticed n xs = marked n (wrong xs)

-- the list has room for them
pub record Room (s : Noted) (xs : List Finding) : Type 0 where
  pub back : 16 * (s.high + length (back_only xs)) ≤ length s.list
  pub front : 16 * s.low ≤ length s.list
  pub count : s.fronts + length (front_only xs) ≤ length s.list

-- some slots' records are written, and no piece
pub record Notes (t : List ℕ) (f : Frame) (m : Extent) (es : List ℕ) (xs : List Fault) (r : Extent) (es' : List ℕ) : Type 0 where
  pub pieces : r.pieces ≡ m.pieces
  pub noted : noted_by r es' ≡ notes t f (noted_by m es) (noticed m.pieces xs)

-- some findings, all of the back: the list has room for their records
abbrev pub BackRoom : ℕ → List ℕ → List Finding → Type 0
BackRoom high es xs = 16 * (high + length (back_only xs)) ≤ length es

-- and they are written, wherever those of the front begin
pub record BackNotes (t : List ℕ) (f : Frame) (high : ℕ) (es : List ℕ) (xs : List Finding) (r : ℕ) (es' : List ℕ) : Type 0 where
  pub noted : (low fronts : ℕ) →
      record { low = low; high = r; fronts = fronts; list = es' } ≡
      notes t f (record { low = low; high = high; fronts = fronts; list = es }) xs

-- one more piece
abbrev pub one_more : Extent → Extent
one_more m = record { pieces = m.pieces + 1; low = m.low; high = m.high; fronts = m.fronts }

-- A STEP: both lists have room for what it gives
pub record StepRoom (x : Step) (m : Extent) (ps es : List ℕ) : Type 0 where
  pub pieces : 40 * (m.pieces + length (pieces_of x)) ≤ length ps
  pub errors : Room (noted_by m es) (noticed m.pieces (step_slots x))

-- its piece and its records are written
pub record Stepped (t : List ℕ) (f : Frame) (x : Step) (m : Extent) (ps es : List ℕ) (r : Extent) (ps' es' : List ℕ) : Type 0 where
  pub pieces : r.pieces ≡ m.pieces + length (pieces_of x)
  pub wrote : ps' ≡ laid ps (40 * m.pieces) (gather piece_words (pieces_of x))
  pub noted : noted_by r es' ≡ notes t f (noted_by m es) (noticed m.pieces (step_slots x))

-- and reading goes on as it does after the step
pub record SteppedOn (t : List ℕ) (f : Frame) (m : Mode) (s : State) (k : Extent) (ps es : List ℕ) (r : StepWritten) (ps' es' : List ℕ) : Type 0 where
  pub stepped : Stepped t f (step_at t f m s) k ps es r.extent ps' es'
  pub next : r.next ≡ onward s (step_at t f m s)
  pub given : r.given ≡ given_by (step_at t f m s)
