-- The parts of a record as a listing has them: beside each `Display` of `src`, the bytes that it writes.
use Rattle.std.specs.Prelude.{ℕ, List, [], ◌∷◌, ◌++◌, Option, Some, None, codes, decimal}
use Rattle.std.specs.Int.{from_bool}
use Rattle.std.specs.List.{concat}
use Rattle.frame.specs.declared.Span.{Span}
use Rattle.frame.specs.declared.TextRange.{TextRange}
use Rattle.scan.specs.declared.Count.{Count}
use Rattle.scan.specs.declared.Numeral.{Numeral}
use Rattle.placeholder.specs.declared.Align.{Align}
use Rattle.placeholder.specs.declared.Fill.{Fill}
use Rattle.placeholder.specs.declared.Hex.{Hex}
use Rattle.placeholder.specs.declared.Place.{Place}
use Rattle.placeholder.specs.declared.Sign.{Sign}
use Rattle.placeholder.specs.declared.Spec.{Spec}
use Rattle.listing.specs.declared.Ends.{Ends}
use Rattle.listing.specs.Shapes.{shaped}

-- the ends of a span, and of a part of the text
abbrev pub span_ends : Span → Ends
span_ends span = record { start = span.start.0; end = span.end.0 }

abbrev pub range_ends : TextRange → Ends
range_ends range = record { start = range.start.0; end = range.end.0 }

-- where something starts and ends: `S..E`
abbrev pub ends_listed : Ends → List ℕ
ends_listed ends = shaped (codes "#..#") ends.start ends.end

abbrev pub span_listed : Span → List ℕ
span_listed span = ends_listed (span_ends span)

-- a part of the text: the places of its first byte and of the byte past its last
abbrev pub range_listed : TextRange → List ℕ
range_listed range = shaped (codes "# #") range.start.0 range.end.0

abbrev pub numeral_listed : Numeral → List ℕ
numeral_listed (Numeral.Within number) = decimal number
numeral_listed Numeral.Over = codes "over"

abbrev pub place_listed : Place → List ℕ
place_listed (Place.Next argument) = codes "next " ++ decimal argument
place_listed (Place.At (Numeral.Within argument)) = codes "at " ++ decimal argument
place_listed (Place.At Numeral.Over) = codes "over"
place_listed (Place.Named name) = codes "name " ++ range_listed name

abbrev pub count_listed : Count → List ℕ
count_listed Count.Implied = codes "implied"
count_listed (Count.Fixed number) = codes "fixed " ++ numeral_listed number
count_listed (Count.ByName name span) = codes "name " ++ (range_listed name ++ (codes " " ++ span_listed span))
count_listed (Count.ByArgument number) = codes "arg " ++ numeral_listed number
count_listed (Count.ByStar argument) = codes "star " ++ decimal argument

-- a fill: its character's code, and where it stands
abbrev pub fill_listed : Fill → List ℕ
fill_listed fill = decimal fill.code ++ (codes " " ++ span_listed fill.span)

-- a part that may be absent, for which `-` stands
abbrev pub or_dash : {T : Type 0} → (T → List ℕ) → Option T → List ℕ
or_dash listed None = codes "-"
or_dash listed (Some part) = listed part

-- the same of what `{}` writes for a part, where that is known
abbrev pub output_or_dash : {T : Type 0} → (T → Option (List ℕ)) → Option T → Option (List ℕ)
output_or_dash output None = Some (codes "-")
output_or_dash output (Some part) = output part

-- a mark as a number, 0 where it is absent
abbrev pub align_number : Align → ℕ
align_number Align.Unknown = 0
align_number Align.Left = 1
align_number Align.Right = 2
align_number Align.Center = 3

abbrev pub sign_number : Sign → ℕ
sign_number Sign.Absent = 0
sign_number Sign.Plus = 1
sign_number Sign.Minus = 2

abbrev pub hex_number : Hex → ℕ
hex_number Hex.Absent = 0
hex_number Hex.Lower = 1
hex_number Hex.Upper = 2

-- a spec: its marks as numbers, then its counts and its type
abbrev pub spec_listed : Spec → List ℕ
spec_listed spec = concat (
    codes "fill " ∷ or_dash fill_listed spec.fill ∷ codes " align " ∷ decimal (align_number spec.align) ∷ codes " sign " ∷ decimal (sign_number spec.sign) ∷
    codes " alt " ∷ decimal (from_bool spec.alternate) ∷ codes " zero " ∷ decimal (from_bool spec.zero) ∷ codes " hex " ∷ decimal (hex_number spec.hex) ∷
    codes " width " ∷ count_listed spec.width ∷ codes " " ∷ or_dash span_listed spec.widthspan ∷
    codes " precision " ∷ count_listed spec.precision ∷ codes " " ∷ or_dash span_listed spec.precisionspan ∷
    codes " type " ∷ range_listed spec.typetext ∷ codes " " ∷ or_dash span_listed spec.typespan ∷ [])
