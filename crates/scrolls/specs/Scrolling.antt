-- THE LAW FOR THE EDITOR: where to scroll for an error. The number that an error carries is that of a piece: the placeholder in whose own reading the error
-- was found, and which starts no later than the error; or all pieces are listed before it, and it is a lone `}`.
-- Rests on Steps, Faults, Records and Lists, and on AmongLaws for what stands in a list. ScrollLaws says why it holds of every reading.
use Rattle.std.specs.Prelude.{ℕ, ◌≤◌, ◌<◌, ◌≡◌, List, length, get_or}
use Rattle.frame.specs.Places.{place}
use Rattle.frame.specs.Spans.{start_of}
use Rattle.frame.specs.declared.TextPlace.{TextPlace}
use Rattle.frame.specs.declared.Frame.{Frame}
use Rattle.frame.specs.declared.Mode.{Mode}
use Rattle.scan.specs.Characters.{past_at}
use Rattle.closing.specs.declared.whole.PlaceholderRead.{PlaceholderRead}
use Rattle.reading.specs.Steps.{reading}
use Rattle.reading.specs.Faults.{faults_of, Finding}
use Rattle.reading.specs.Records.{record_of}
use Rattle.reading.specs.Lists.{pieces, found, errors}
use Rattle.reading.specs.declared.ErrorRecord.{ErrorRecord}
use Rattle.reading.specs.declared.Fault.{Fault}
use Rattle.reading.specs.declared.Piece.{Piece}
use Rattle.reading.specs.declared.Step.{Step}
use Rattle.scrolls.specs.AmongLaws.{Among}

-- WHERE A PIECE STARTS: a literal where its view does, a placeholder at its opening brace
abbrev pub starts_at : Piece → TextPlace
starts_at (Piece.Literal r) = r.start
starts_at (Piece.Placeholder a) = a.range.start

-- WHERE A FAULT WAS FOUND: its first byte, where its record's span starts; where the text had ended, the text's end
abbrev pub found_at : List ℕ → Fault → TextPlace
found_at t Fault.Clean = place (length t)
found_at t (Fault.Unmatched p) = p
found_at t (Fault.Expected p why) = p
found_at t (Fault.Unclosed why) = place (length t)
found_at t (Fault.RawName r) = r.start
found_at t (Fault.AfterDebug p) = past_at t p
found_at t (Fault.Underscore r) = r.start
found_at t (Fault.TooLarge r) = r.start
found_at t (Fault.DebugFirst p r) = p
found_at t (Fault.NoColon p) = p
found_at t (Fault.Equals p brace) = p
found_at t (Fault.Misplaced p) = p
found_at t (Fault.PlusFirst p) = p
found_at t (Fault.Field a b) = a
found_at t (Fault.TupleIndex a b) = a
found_at t (Fault.Comma p brace) = p

module _ (t : List ℕ) (f : Frame) (m : Mode) where
  -- the piece with a finding's number is its own: a step of the reading is a placeholder that has the fault, that piece is this placeholder's argument,
  -- and it starts at or before the place where the fault was found
  pub record Own (x : Finding) : Type 0 where
    pub read : PlaceholderRead
    pub step : Among (Step.Placeholder read) (reading t f m)
    pub fault : Among x.fault (faults_of (Step.Placeholder read))
    pub piece : (d : Piece) → get_or (pieces t f m) x.piece d ≡ Piece.Placeholder read.argument
    pub before : (starts_at (Piece.Placeholder read.argument)).0 ≤ (found_at t x.fault).0

  -- a finding is the lone `}` where the reading stopped
  pub record Lone (x : Finding) : Type 0 where
    pub at : TextPlace
    pub step : Among (Step.Stop at) (reading t f m)
    pub fault : x.fault ≡ Fault.Unmatched at

  -- WHERE TO SCROLL for a finding: its number is at most that of the pieces; where a piece has that number, it is its own; where all pieces are
  -- listed before it, it is a lone `}`
  pub record Scroll (x : Finding) : Type 0 where
    pub number : x.piece ≤ length (pieces t f m)
    pub own : x.piece < length (pieces t f m) → Own x
    pub lone : x.piece ≡ length (pieces t f m) → Lone x

  -- and for an error record: it is that of a finding, whose number it carries, and its span starts where the fault was found
  pub record ErrorScroll (e : ErrorRecord) : Type 0 where
    pub finding : Finding
    pub among : Among finding (found t f m)
    pub same : e ≡ record_of t f finding.piece finding.fault
    pub number : e.piece ≡ finding.piece
    pub span : e.span.start ≡ start_of t f (found_at t finding.fault)
    pub scroll : Scroll finding

  -- THE LAW, for each finding and for each error record of a reading
  pub record Scrolls : Type 0 where
    pub findings : (x : Finding) → Among x (found t f m) → Scroll x
    pub errors : (e : ErrorRecord) → Among e (errors t f m) → ErrorScroll e
