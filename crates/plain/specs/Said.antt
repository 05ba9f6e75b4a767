-- What the pieces of a text say: "literals, names and words compared by their text, spans and byte ranges aside". Each range becomes its bytes,
-- and no span is kept. Rests on the records that the reader declares.
use Rattle.std.specs.Prelude.{Bool, List, map, ℕ, Option, Some, None}
use Rattle.scan.specs.declared.Count.{Count}
use Rattle.scan.specs.declared.Numeral.{Numeral}
use Rattle.placeholder.specs.declared.Align.{Align}
use Rattle.placeholder.specs.declared.Fill.{Fill}
use Rattle.placeholder.specs.declared.Hex.{Hex}
use Rattle.placeholder.specs.declared.Place.{Place}
use Rattle.placeholder.specs.declared.Sign.{Sign}
use Rattle.placeholder.specs.declared.Spec.{Spec}
use Rattle.reading.specs.declared.Piece.{Piece}
use Rattle.pen.specs.Pens.{text_of}

-- a place: the next argument, with its number, the argument of a number, or a name
pub data SaidPlace : Type 0 where
  next : ℕ → SaidPlace
  at : Numeral → SaidPlace
  named : List ℕ → SaidPlace

-- a fill, or none
pub data SaidFill : Type 0 where
  unfilled : SaidFill
  filled : ℕ → SaidFill

-- a width or a precision
pub data SaidCount : Type 0 where
  implied : SaidCount
  fixed by_argument : Numeral → SaidCount
  by_star : ℕ → SaidCount
  by_name : List ℕ → SaidCount

pub record SaidSpec : Type 0 where
  pub fill : SaidFill
  pub align : Align
  pub sign : Sign
  pub alternate : Bool
  pub zero : Bool
  pub hex : Hex
  pub width : SaidCount
  pub precision : SaidCount
  pub typetext : List ℕ

pub data SaidPiece : Type 0 where
  literal : List ℕ → SaidPiece
  argument : SaidPlace → SaidSpec → SaidPiece

-- IN THE TEXT t
module _ (t : List ℕ) where
  abbrev pub said_place : Place → SaidPlace
  said_place (Place.Next i) = next i
  said_place (Place.At n) = at n
  said_place (Place.Named r) = named (text_of t r)

  abbrev pub said_fill : Option Fill → SaidFill
  said_fill None = unfilled
  said_fill (Some f) = filled f.code

  abbrev pub said_count : Count → SaidCount
  said_count Count.Implied = implied
  said_count (Count.Fixed n) = fixed n
  said_count (Count.ByName r s) = by_name (text_of t r)
  said_count (Count.ByArgument n) = by_argument n
  said_count (Count.ByStar i) = by_star i

  abbrev pub said_spec : Spec → SaidSpec
  said_spec x =
      record {
        fill = said_fill x.fill;
        align = x.align;
        sign = x.sign;
        alternate = x.alternate;
        zero = x.zero;
        hex = x.hex;
        width = said_count x.width;
        precision = said_count x.precision;
        typetext = text_of t x.typetext;
      }

  abbrev pub said_piece : Piece → SaidPiece
  said_piece (Piece.Literal r) = literal (text_of t r)
  said_piece (Piece.Placeholder a) = argument (said_place a.place) (said_spec a.spec)

  -- WHAT PIECES SAY, one to one and in order
  abbrev pub said : List Piece → List SaidPiece
  said xs = map said_piece xs
