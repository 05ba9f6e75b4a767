-- Records with each span replaced by the same one, so that equal ones differ in spans at most. Rests on the records that the reader declares.
use Rattle.std.specs.Prelude.{List, map, ℕ, Option, Some, None}
use Rattle.frame.specs.Places.{snippet, span_of}
use Rattle.frame.specs.declared.Span.{Span}
use Rattle.scan.specs.declared.Count.{Count}
use Rattle.placeholder.specs.declared.Argument.{Argument}
use Rattle.placeholder.specs.declared.Fill.{Fill}
use Rattle.placeholder.specs.declared.Spec.{Spec}
use Rattle.reading.specs.declared.ErrorRecord.{ErrorRecord}
use Rattle.reading.specs.declared.Piece.{Piece}
use Rattle.frame.specs.declared.TextRange.{TextRange}
use Rattle.placeholder.specs.Filling.{filling}

-- the one span
abbrev pub anywhere : Span
anywhere = span_of (snippet 0) (snippet 0)

abbrev pub maybe : Option Span → Option Span
maybe None = None
maybe (Some s) = Some anywhere

abbrev pub fill : Option Fill → Option Fill
fill None = None
fill (Some f) = filling f.code anywhere

abbrev pub count : Count → Count
count Count.Implied = Count.Implied
count (Count.Fixed n) = Count.Fixed n
count (Count.ByName r s) = Count.ByName r anywhere
count (Count.ByArgument n) = Count.ByArgument n
count (Count.ByStar n) = Count.ByStar n

abbrev pub spec : Spec → Spec
spec x =
    record {
      fill = fill x.fill;
      align = x.align;
      sign = x.sign;
      alternate = x.alternate;
      zero = x.zero;
      hex = x.hex;
      width = count x.width;
      widthspan = maybe x.widthspan;
      precision = count x.precision;
      precisionspan = maybe x.precisionspan;
      typetext = x.typetext;
      typespan = maybe x.typespan;
    }

abbrev pub argument : Argument → Argument
argument x = record { place = x.place; placespan = anywhere; spec = spec x.spec; range = x.range }

abbrev pub piece : Piece → Piece
piece (Piece.Literal r) = Piece.Literal r
piece (Piece.Placeholder x) = Piece.Placeholder (argument x)

-- pieces without their spans
abbrev pub pieces : List Piece → List Piece
pieces xs = map piece xs

-- the kinds of errors, what each quotes, and how many pieces were listed before it
abbrev pub kinds : List ErrorRecord → List ℕ
kinds xs = map (λ x. x.kind) xs

abbrev pub quotes : List ErrorRecord → List (Option TextRange)
quotes xs = map (λ x. x.quoted) xs

abbrev pub before : List ErrorRecord → List ℕ
before xs = map (λ x. x.piece) xs
