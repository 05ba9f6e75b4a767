-- A piece as 40 numbers and an error record as 16, each below 2^32. What is absent is 0.
use Rattle.std.specs.Prelude.{ℕ, ◌%◌, Bool, true, false, List, [], ◌∷◌, ◌++◌, Option, Some, None}
use Rattle.frame.specs.declared.Span.{Span}
use Rattle.frame.specs.declared.TextRange.{TextRange}
use Rattle.scan.specs.declared.Count.{Count}
use Rattle.scan.specs.declared.Numeral.{Numeral}
use Rattle.placeholder.specs.declared.Align.{Align}
use Rattle.placeholder.specs.declared.Argument.{Argument}
use Rattle.placeholder.specs.declared.Fill.{Fill}
use Rattle.placeholder.specs.declared.Hex.{Hex}
use Rattle.placeholder.specs.declared.Place.{Place}
use Rattle.placeholder.specs.declared.Sign.{Sign}
use Rattle.placeholder.specs.declared.Spec.{Spec}
use Rattle.reading.specs.declared.ErrorRecord.{ErrorRecord}
use Rattle.reading.specs.declared.Piece.{Piece}

-- a number's low 32 bits
unfoldable pub low_of : ℕ → ℕ
low_of n = n % 0x100000000

abbrev pub four : ℕ → ℕ → ℕ → ℕ → List ℕ
four a b c d = a ∷ b ∷ c ∷ d ∷ []

abbrev pub none : List ℕ
none = four 0 0 0 0

abbrev pub bit_of : Bool → ℕ
bit_of true = 1
bit_of false = 0

abbrev pub align_of : Align → ℕ
align_of Align.Unknown = 0
align_of Align.Left = 1
align_of Align.Right = 2
align_of Align.Center = 3

abbrev pub sign_of : Sign → ℕ
sign_of Sign.Absent = 0
sign_of Sign.Plus = 1
sign_of Sign.Minus = 2

abbrev pub hex_of : Hex → ℕ
hex_of Hex.Absent = 0
hex_of Hex.Lower = 1
hex_of Hex.Upper = 2

-- one tag for a number, another for one that is over range
abbrev pub numeral_tag : ℕ → ℕ → Numeral → ℕ
numeral_tag within over (Numeral.Within n) = within
numeral_tag within over Numeral.Over = over

-- the number itself; over range there is none, as the tag says, and 0 stands here
abbrev pub numeral_of : Numeral → ℕ
numeral_of (Numeral.Within n) = n
numeral_of Numeral.Over = 0

abbrev pub place_tag : Place → ℕ
place_tag (Place.Next n) = 0
place_tag (Place.At n) = numeral_tag 1 3 n
place_tag (Place.Named r) = 2

-- a place's number or name, and its span
abbrev pub place_words : Place → Span → List ℕ
place_words (Place.Next n) s = four (low_of n) 0 (low_of s.start.0) (low_of s.end.0)
place_words (Place.At n) s = four (numeral_of n) 0 (low_of s.start.0) (low_of s.end.0)
place_words (Place.Named r) s = four (low_of r.start.0) (low_of r.end.0) (low_of s.start.0) (low_of s.end.0)

abbrev pub fill_words : Option Fill → List ℕ
fill_words None = none
fill_words (Some f) = four 1 f.code (low_of f.span.start.0) (low_of f.span.end.0)

-- a number, and a span that may be absent
abbrev pub span_words : ℕ → Option Span → List ℕ
span_words first None = four first 0 0 0
span_words first (Some s) = four first 1 (low_of s.start.0) (low_of s.end.0)

-- a count's kind and data, but for the end of a name's span
abbrev pub count_data : Count → List ℕ
count_data Count.Implied = none
count_data (Count.Fixed n) = four (numeral_tag 1 5 n) (numeral_of n) 0 0
count_data (Count.ByArgument n) = four (numeral_tag 2 6 n) (numeral_of n) 0 0
count_data (Count.ByStar n) = four 3 (low_of n) 0 0
count_data (Count.ByName r s) = four 4 (low_of r.start.0) (low_of r.end.0) (low_of s.start.0)

abbrev pub name_span_end : Count → ℕ
name_span_end Count.Implied = 0
name_span_end (Count.Fixed n) = 0
name_span_end (Count.ByArgument n) = 0
name_span_end (Count.ByStar n) = 0
name_span_end (Count.ByName r s) = low_of s.end.0

-- a width or a precision, and its span
abbrev pub count_words : Count → Option Span → List ℕ
count_words c s = count_data c ++ span_words (name_span_end c) s

abbrev pub range_words : Option TextRange → List ℕ
range_words None = none
range_words (Some r) = four 0 1 (low_of r.start.0) (low_of r.end.0)

-- a piece's kind (0 a literal, 1 an argument), its bytes, and an argument's kind of place
abbrev pub head_words : ℕ → TextRange → ℕ → List ℕ
head_words kind r tag = four kind (low_of r.start.0) (low_of r.end.0) tag

-- the spec's 32 numbers
unfoldable pub spec_words : Spec → List ℕ
spec_words s =
    fill_words s.fill ++
    (four (align_of s.align) (sign_of s.sign) (bit_of s.alternate) (bit_of s.zero) ++
    (count_words s.width s.widthspan ++
    (count_words s.precision s.precisionspan ++
    (four (low_of s.typetext.start.0) (low_of s.typetext.end.0) (hex_of s.hex) 0 ++
    span_words 0 s.typespan))))

unfoldable pub argument_words : Argument → List ℕ
argument_words a = head_words 1 a.range (place_tag a.place) ++ (place_words a.place a.placespan ++ spec_words a.spec)

-- 24 numbers that mean nothing
unfoldable pub zeros : List ℕ
zeros = none ++ (none ++ (none ++ (none ++ (none ++ none))))

unfoldable pub literal_words : TextRange → List ℕ
literal_words r = head_words 0 r 0 ++ (none ++ (zeros ++ (none ++ none)))

-- A PIECE (R9.6)
abbrev pub piece_words : Piece → List ℕ
piece_words (Piece.Literal r) = literal_words r
piece_words (Piece.Placeholder a) = argument_words a

-- AN ERROR RECORD (R9.7)
unfoldable pub error_words : ErrorRecord → List ℕ
error_words e =
    four e.kind (low_of e.span.start.0) (low_of e.span.end.0) (low_of e.piece) ++
    (span_words 0 e.second ++ (range_words e.quoted ++ span_words 0 e.suggestion))
