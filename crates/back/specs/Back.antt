-- What a caller does with the numbers: the piece that 40 numbers hold, the error record that 16 hold, and the records of a list one after the other.
-- And which records the numbers hold whole: those whose places, spans and argument numbers are below 2^32.
use Rattle.std.specs.Prelude.{ℕ, zero, suc, ◌+◌, ◌<◌, Bool, List, [], ◌∷◌, eqb, get_or, take, drop, Option, Some, None}
use Rattle.utf8.specs.Choice.{pick}
use Rattle.frame.specs.Places.{place, snippet, range_of, span_of}
use Rattle.frame.specs.declared.Span.{Span}
use Rattle.frame.specs.declared.TextRange.{TextRange}
use Rattle.scan.specs.declared.Count.{Count}
use Rattle.scan.specs.declared.Numeral.{Numeral}
use Rattle.placeholder.specs.declared.Align.{Align}
use Rattle.placeholder.specs.declared.Argument.{Argument}
use Rattle.placeholder.specs.declared.Fill.{Fill}
use Rattle.placeholder.specs.declared.Hex.{Hex}
use Rattle.placeholder.specs.declared.Place.{Place}
use Rattle.placeholder.specs.declared.Sign.{Sign}
use Rattle.placeholder.specs.declared.Spec.{Spec}
use Rattle.reading.specs.declared.ErrorRecord.{ErrorRecord}
use Rattle.reading.specs.declared.Piece.{Piece}
use Rattle.placeholder.specs.Filling.{filling}

-- the i-th number
abbrev pub word : List ℕ → ℕ → ℕ
word w i = get_or w i 0

-- bytes of the text, and a part of the snippet, from the numbers of their start and their end
abbrev pub range_at : List ℕ → ℕ → ℕ → TextRange
range_at w i j = range_of (place (word w i)) (place (word w j))

abbrev pub span_at : List ℕ → ℕ → ℕ → Span
span_at w i j = span_of (snippet (word w i)) (snippet (word w j))

-- each enum by its number
abbrev pub bit_from : ℕ → Bool
bit_from n = eqb n 1

abbrev pub align_from : ℕ → Align
align_from n = pick (eqb n 1) Align.Left (pick (eqb n 2) Align.Right (pick (eqb n 3) Align.Center Align.Unknown))

abbrev pub sign_from : ℕ → Sign
sign_from n = pick (eqb n 1) Sign.Plus (pick (eqb n 2) Sign.Minus Sign.Absent)

abbrev pub hex_from : ℕ → Hex
hex_from n = pick (eqb n 1) Hex.Lower (pick (eqb n 2) Hex.Upper Hex.Absent)

-- four numbers from the k-th on: the second says whether a span, or bytes, are there
abbrev pub maybe_span_at : List ℕ → ℕ → Option Span
maybe_span_at w k = pick (eqb (word w (k + 1)) 1) (Some (span_at w (k + 2) (k + 3))) None

abbrev pub maybe_range_at : List ℕ → ℕ → Option TextRange
maybe_range_at w k = pick (eqb (word w (k + 1)) 1) (Some (range_at w (k + 2) (k + 3))) None

abbrev pub fill_at : List ℕ → ℕ → Option Fill
fill_at w k = pick (eqb (word w k) 1) (filling (word w (k + 1)) (span_at w (k + 2) (k + 3))) None

-- a place of the kind that a number says
abbrev pub place_at : ℕ → List ℕ → ℕ → Place
place_at tag w k =
    pick (eqb tag 0) (Place.Next (word w k))
    (pick (eqb tag 1) (Place.At (Numeral.Within (word w k)))
    (pick (eqb tag 3) (Place.At Numeral.Over)
    (Place.Named (range_at w k (k + 1)))))

abbrev pub count_at : List ℕ → ℕ → Count
count_at w k =
    pick (eqb (word w k) 1) (Count.Fixed (Numeral.Within (word w (k + 1))))
    (pick (eqb (word w k) 2) (Count.ByArgument (Numeral.Within (word w (k + 1))))
    (pick (eqb (word w k) 3) (Count.ByStar (word w (k + 1)))
    (pick (eqb (word w k) 4) (Count.ByName (range_at w (k + 1) (k + 2)) (span_at w (k + 3) (k + 4)))
    (pick (eqb (word w k) 5) (Count.Fixed Numeral.Over)
    (pick (eqb (word w k) 6) (Count.ByArgument Numeral.Over)
    Count.Implied)))))

unfoldable pub spec_from : List ℕ → Spec
spec_from w =
    record {
      fill = fill_at w 8;
      align = align_from (word w 12);
      sign = sign_from (word w 13);
      alternate = bit_from (word w 14);
      zero = bit_from (word w 15);
      hex = hex_from (word w 34);
      width = count_at w 16;
      widthspan = maybe_span_at w 20;
      precision = count_at w 24;
      precisionspan = maybe_span_at w 28;
      typetext = range_at w 32 33;
      typespan = maybe_span_at w 36;
    }

unfoldable pub argument_from : List ℕ → Argument
argument_from w =
    record {
      place = place_at (word w 3) w 4;
      placespan = span_at w 6 7;
      spec = spec_from w;
      range = range_at w 1 2;
    }

-- A PIECE
unfoldable pub piece_from : List ℕ → Piece
piece_from w = pick (eqb (word w 0) 0) (Piece.Literal (range_at w 1 2)) (Piece.Placeholder (argument_from w))

-- AN ERROR RECORD
unfoldable pub error_from : List ℕ → ErrorRecord
error_from w =
    record {
      kind = word w 0;
      span = span_at w 1 2;
      second = maybe_span_at w 4;
      quoted = maybe_range_at w 8;
      suggestion = maybe_span_at w 12;
      piece = word w 3;
    }

-- A LIST of n records: each from the next so many numbers
unfoldable pub list_from : {A : Type 0} → ℕ → (List ℕ → A) → ℕ → List ℕ → List A
list_from size from zero w = []
list_from size from (suc n) w = from (take size w) ∷ list_from size from n (drop size w)

-- WHAT FITS: each number that is written by its low 32 bits has no more
abbrev pub Below : ℕ → Type 0
Below n = n < 0x100000000

abbrev pub RangeFits : TextRange → Type 0
RangeFits r = Below r.start.0 × Below r.end.0

abbrev pub SpanFits : Span → Type 0
SpanFits s = Below s.start.0 × Below s.end.0

abbrev pub MaybeSpanFits : Option Span → Type 0
MaybeSpanFits None = Unit {0}
MaybeSpanFits (Some s) = SpanFits s

abbrev pub MaybeRangeFits : Option TextRange → Type 0
MaybeRangeFits None = Unit {0}
MaybeRangeFits (Some r) = RangeFits r

abbrev pub FillFits : Option Fill → Type 0
FillFits None = Unit {0}
FillFits (Some f) = SpanFits f.span

abbrev pub PlaceFits : Place → Type 0
PlaceFits (Place.Next n) = Below n
PlaceFits (Place.At n) = Unit {0}
PlaceFits (Place.Named r) = RangeFits r

abbrev pub CountFits : Count → Type 0
CountFits Count.Implied = Unit {0}
CountFits (Count.Fixed n) = Unit {0}
CountFits (Count.ByArgument n) = Unit {0}
CountFits (Count.ByStar n) = Below n
CountFits (Count.ByName r s) = RangeFits r × SpanFits s

pub record SpecFits (s : Spec) : Type 0 where
  pub fill : FillFits s.fill
  pub width : CountFits s.width
  pub widthspan : MaybeSpanFits s.widthspan
  pub precision : CountFits s.precision
  pub precisionspan : MaybeSpanFits s.precisionspan
  pub typetext : RangeFits s.typetext
  pub typespan : MaybeSpanFits s.typespan

pub record ArgumentFits (a : Argument) : Type 0 where
  pub place : PlaceFits a.place
  pub placespan : SpanFits a.placespan
  pub spec : SpecFits a.spec
  pub range : RangeFits a.range

abbrev pub Fits : Piece → Type 0
Fits (Piece.Literal r) = RangeFits r
Fits (Piece.Placeholder a) = ArgumentFits a

pub record ErrorFits (e : ErrorRecord) : Type 0 where
  pub span : SpanFits e.span
  pub second : MaybeSpanFits e.second
  pub quoted : MaybeRangeFits e.quoted
  pub suggestion : MaybeSpanFits e.suggestion
  pub piece : Below e.piece

-- each of a list
pub data All {A : Type 0} (P : A → Type 0) : List A → Type 0 where
  none : All P []
  more : {x : A} {xs : List A} → P x → All P xs → All P (x ∷ xs)
