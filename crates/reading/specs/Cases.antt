-- A computed case: what a call takes, and all that it gives, every field of every record. Rests on the definitions of this crate.
use Rattle.std.specs.Prelude.{ℕ, Bool, true, false, List, [], ◌∷◌, length, Option, Some, None}
use Prim.Native.Char.{code}
use Prim.Native.String.{String, [] as ended, ◌∷◌ as ◌then◌}
use Rattle.frame.specs.Places.{place, snippet, range_of, span_of}
use Rattle.frame.specs.declared.Span.{Span}
use Rattle.frame.specs.declared.TextRange.{TextRange}
use Rattle.scan.specs.declared.Count.{Count}
use Rattle.placeholder.specs.declared.Align.{Align}
use Rattle.placeholder.specs.declared.Fill.{Fill}
use Rattle.placeholder.specs.declared.Hex.{Hex}
use Rattle.placeholder.specs.declared.Place.{Place}
use Rattle.placeholder.specs.declared.Sign.{Sign}
use Rattle.placeholder.specs.declared.Spec.{Spec}
use Rattle.reading.specs.Lists.{pieces, errors, places, lines}
use Rattle.reading.specs.Moves.{moves}
use Rattle.reading.specs.Wants.{wants}
use Rattle.reading.specs.Answers.{answered, frame_for, mode_for, answer_of}
use Rattle.reading.specs.declared.Answer.{Answer}
use Rattle.reading.specs.declared.Counts.{Counts}
use Rattle.reading.specs.declared.ErrorRecord.{ErrorRecord}
use Rattle.reading.specs.declared.Piece.{Piece}
use Rattle.reading.specs.declared.Request.{Request}
use Rattle.reading.specs.declared.Rooms.{Rooms}

pub record Case : Type 0 where
  pub text : List ℕ
  pub snippet : List ℕ
  pub request : Request
  pub answer : Answer
  pub pieces : List Piece
  pub errors : List ErrorRecord
  pub places : List Span
  pub lines : List Span

-- "Its four lists hold 256 records each."
abbrev pub rooms256 : Rooms
rooms256 = record { pieces = 256; errors = 256; places = 256; lines = 256 }

-- what the definitions give for a case's call, in the case's place
abbrev pub given : Case → Case
given c =
    let f = frame_for c.text c.snippet c.request in
    let m = mode_for c.request in
    record {
      text = c.text;
      snippet = c.snippet;
      request = c.request;
      answer = answer_of c.text c.snippet c.request rooms256;
      pieces = pieces c.text f m;
      errors = errors c.text f m;
      places = places c.text f m;
      lines = lines c.text f m;
    }

unfoldable pub all_given : List Case → List Case
all_given [] = []
all_given (c ∷ cs) = given c ∷ all_given cs

-- an ASCII text's bytes
unfoldable pub bytes_of : String → List ℕ
bytes_of ended = []
bytes_of (c then s) = code c ∷ bytes_of s

abbrev pub span : ℕ → ℕ → Span
span a b = span_of (snippet a) (snippet b)

abbrev pub range : ℕ → ℕ → TextRange
range a b = range_of (place a) (place b)

abbrev pub some : ℕ → ℕ → Option Span
some a b = Some (span a b)

abbrev pub none : Option Span
none = None

abbrev pub quoted : ℕ → ℕ → Option TextRange
quoted a b = Some (range a b)

abbrev pub unquoted : Option TextRange
unquoted = None

-- PIECES
abbrev pub lit : ℕ → ℕ → Piece
lit a b = Piece.Literal (range a b)

-- bytes a to b, with a place and its span
abbrev pub arg : ℕ → ℕ → Place → Span → Spec → Piece
arg a b p s x = Piece.Placeholder (record { place = p; placespan = s; spec = x; range = range a b })

abbrev pub named : ℕ → ℕ → Place
named a b = Place.Named (range a b)

-- a spec that has a fill, an align, a `0`, a width and a precision with their spans, and a type with its span
abbrev pub spec : Option Fill → Align → Bool → Count → Option Span → Count → Option Span → TextRange → Option Span → Spec
spec fill align zero width widthspan precision precisionspan typetext typespan =
    record {
      fill = fill;
      align = align;
      sign = Sign.Absent;
      alternate = false;
      zero = zero;
      hex = Hex.Absent;
      width = width;
      widthspan = widthspan;
      precision = precision;
      precisionspan = precisionspan;
      typetext = typetext;
      typespan = typespan;
    }

-- a spec that has a type alone
abbrev pub typed : ℕ → ℕ → Option Span → Spec
typed a b s = spec None Align.Unknown false Count.Implied none Count.Implied none (range a b) s

-- a spec that has nothing: its empty type stands where reading stood
abbrev pub empty : ℕ → Spec
empty a = typed a a none

-- CALLS
abbrev pub ask : ℕ → Option ℕ → Bool → Bool → Request
ask mode style given newline = record { mode = mode; style = style; given = given; newline = newline }

abbrev pub counts : ℕ → ℕ → ℕ → ℕ → Counts
counts p e a l = record { pieces = p; errors = e; places = a; lines = l }

abbrev pub rooms : ℕ → ℕ → ℕ → ℕ → Rooms
rooms p e a l = record { pieces = p; errors = e; places = a; lines = l }

-- done, after so many moves: each count is the length of its list, and the arguments are those that the pieces want
abbrev pub done : ℕ → List Piece → List ErrorRecord → List Span → List Span → Answer
done moves ps es ls ns = answered 0 0 (counts (length ps) (length es) (length ls) (length ns)) (wants ps) moves

-- the moves of a call: the tables leave them to the definition, and `strides` of Bench has numbers of its own
abbrev pub moves_of : List ℕ → List ℕ → Request → ℕ
moves_of t s q = moves t (frame_for t s q) (mode_for q)

-- a text of some mode, with no style and no snippet
abbrev pub bare : ℕ → String → List Piece → List ErrorRecord → Case
bare mode t ps es =
    record {
      text = bytes_of t;
      snippet = [];
      request = ask mode None false false;
      answer = done (moves_of (bytes_of t) [] (ask mode None false false)) ps es [] [];
      pieces = ps;
      errors = es;
      places = [];
      lines = [];
    }

-- a source literal of some mode, with no hashes, whose snippet matches
abbrev pub source : ℕ → String → String → List Piece → List ErrorRecord → List Span → List Span → Case
source mode t s ps es ls ns =
    record {
      text = bytes_of t;
      snippet = bytes_of s;
      request = ask mode (Some 0) true false;
      answer = done (moves_of (bytes_of t) (bytes_of s) (ask mode (Some 0) true false)) ps es ls ns;
      pieces = ps;
      errors = es;
      places = ls;
      lines = ns;
    }
