-- What becomes of two texts' pieces in the joined text, and the premise. Rests on the records that the reader declares.
use Rattle.std.specs.Prelude.{◌≡◌, ◌⊎◌, Bool, false, List, [], ◌∷◌, ◌++◌, map, ℕ, ◌+◌, eqb, length, Option, Some, None}
use Rattle.utf8.specs.Choice.{pick, both, either}
use Rattle.frame.specs.Places.{place, range_of, snippet, span_of}
use Rattle.frame.specs.declared.Mode.{Mode}
use Rattle.frame.specs.declared.TextRange.{TextRange}
use Rattle.frame.specs.declared.Span.{Span}
use Rattle.scan.specs.declared.Count.{Count}
use Rattle.placeholder.specs.declared.Place.{Place}
use Rattle.placeholder.specs.declared.Fill.{Fill}
use Rattle.placeholder.specs.declared.Spec.{Spec}
use Rattle.placeholder.specs.declared.Argument.{Argument}
use Rattle.reading.specs.declared.Counts.{Counts}
use Rattle.reading.specs.declared.Piece.{Piece}
use Rattle.placeholder.specs.Filling.{filling}

-- MOVED by d bytes, "implicit places and stars .. raised by" k
module _ (d k : ℕ) where
  -- "byte places and spans moved"
  abbrev pub moved_range : TextRange → TextRange
  moved_range r = range_of (place (r.start.0 + d)) (place (r.end.0 + d))

  abbrev pub moved_span : Span → Span
  moved_span s = span_of (snippet (s.start.0 + d)) (snippet (s.end.0 + d))

  abbrev pub moved_maybe : Option Span → Option Span
  moved_maybe None = None
  moved_maybe (Some s) = Some (moved_span s)

  abbrev pub moved_fill : Option Fill → Option Fill
  moved_fill None = None
  moved_fill (Some f) = filling f.code (moved_span f.span)

  -- an implicit place
  abbrev pub moved_place : Place → Place
  moved_place (Place.Next i) = Place.Next (i + k)
  moved_place (Place.At i) = Place.At i
  moved_place (Place.Named r) = Place.Named (moved_range r)

  -- a star
  abbrev pub moved_count : Count → Count
  moved_count Count.Implied = Count.Implied
  moved_count (Count.Fixed n) = Count.Fixed n
  moved_count (Count.ByName r s) = Count.ByName (moved_range r) (moved_span s)
  moved_count (Count.ByArgument n) = Count.ByArgument n
  moved_count (Count.ByStar i) = Count.ByStar (i + k)

  abbrev pub moved_spec : Spec → Spec
  moved_spec x =
      record {
        fill = moved_fill x.fill;
        align = x.align;
        sign = x.sign;
        alternate = x.alternate;
        zero = x.zero;
        hex = x.hex;
        width = moved_count x.width;
        widthspan = moved_maybe x.widthspan;
        precision = moved_count x.precision;
        precisionspan = moved_maybe x.precisionspan;
        typetext = moved_range x.typetext;
        typespan = moved_maybe x.typespan;
      }

  abbrev pub moved_argument : Argument → Argument
  moved_argument a =
      record {
        place = moved_place a.place;
        placespan = moved_span a.placespan;
        spec = moved_spec a.spec;
        range = moved_range a.range;
      }

  -- (R12.3, R12.4)
  abbrev pub moved : Piece → Piece
  moved (Piece.Literal r) = Piece.Literal (moved_range r)
  moved (Piece.Placeholder a) = Piece.Placeholder (moved_argument a)

-- "THE NUMBER OF BOTH": implicit places and stars
abbrev pub implicit_in : Place → ℕ
implicit_in (Place.Next i) = 1
implicit_in (Place.At i) = 0
implicit_in (Place.Named r) = 0

abbrev pub stars_in : Count → ℕ
stars_in Count.Implied = 0
stars_in (Count.Fixed n) = 0
stars_in (Count.ByName r s) = 0
stars_in (Count.ByArgument n) = 0
stars_in (Count.ByStar i) = 1

-- (R12.4)
unfoldable pub number_of_both : List Piece → ℕ
number_of_both [] = 0
number_of_both (Piece.Literal r ∷ xs) = number_of_both xs
number_of_both (Piece.Placeholder a ∷ xs) = stars_in a.spec.precision + implicit_in a.place + number_of_both xs

-- A DOUBLED BRACE, `{{` or `}}`, that a text starts with (R12.5)
unfoldable pub is_doubled : List ℕ → Bool
is_doubled [] = false
is_doubled (a ∷ []) = false
is_doubled (a ∷ b ∷ u) = both (eqb a b) (either (eqb a 0x7B) (eqb a 0x7D))

-- THE PIECES, "the first's and then the second's", where the second's text starts with a doubled brace or not:
-- "A final literal and an opening one that starts with no doubled brace become one."
abbrev pub meeting : Bool → Piece → List Piece → List Piece
meeting doubled x [] = x ∷ []
meeting doubled (Piece.Placeholder a) (y ∷ ys) = Piece.Placeholder a ∷ y ∷ ys
meeting doubled (Piece.Literal r) (Piece.Placeholder b ∷ ys) = Piece.Literal r ∷ Piece.Placeholder b ∷ ys
meeting doubled (Piece.Literal r) (Piece.Literal s ∷ ys) =
    pick doubled (Piece.Literal r ∷ Piece.Literal s ∷ ys) (Piece.Literal (range_of r.start s.end) ∷ ys)

-- (R12.5)
unfoldable pub meet : Bool → List Piece → List Piece → List Piece
meet doubled [] ys = ys
meet doubled (x ∷ []) ys = meeting doubled x ys
meet doubled (x ∷ y ∷ xs) ys = x ∷ meet doubled (y ∷ xs) ys

-- THE JOIN of the pieces ps of a text t and of the pieces qs of a text u (R12.3 to R12.5)
abbrev pub join : List ℕ → List ℕ → List Piece → List Piece → List Piece
join t u ps qs = meet (is_doubled u) ps (map (moved (length t) (number_of_both ps)) qs)

-- THREE TEXTS OR MORE: joined one after the other, and their pieces, where P gives those of a text
abbrev pub text_all : List ℕ → List (List ℕ) → List ℕ
text_all t [] = t
text_all t (u ∷ us) = text_all (t ++ u) us

-- (R12.8)
abbrev pub join_all : (List ℕ → List Piece) → List ℕ → List Piece → List (List ℕ) → List Piece
join_all P t ps [] = ps
join_all P t ps (u ∷ us) = join_all P (t ++ u) (join t u ps (P u)) us

-- counts of pieces alone: no error, argument place or line
abbrev pub pieces_only : ℕ → Counts
pieces_only n = record { pieces = n; errors = 0; places = 0; lines = 0 }

-- THE PREMISE, "in Format mode: the first text does not end in `:}`, or the second does not start with `<`, `>` or `^`"
abbrev pub EndsInColon : List ℕ → Type 0
EndsInColon t = (v : List ℕ) × (t ≡ v ++ (0x3A ∷ 0x7D ∷ []))

abbrev pub StartsWithAlign : List ℕ → Type 0
StartsWithAlign [] = ⊥
StartsWithAlign (c ∷ u) = (c ≡ 0x3C) ⊎ (c ≡ 0x3E) ⊎ (c ≡ 0x5E)

-- (R12.2)
abbrev pub Premise : Mode → List ℕ → List ℕ → Type 0
Premise Mode.Format t u = (¬ EndsInColon t) ⊎ (¬ StartsWithAlign u)
Premise Mode.InlineAsm t u = Unit {0}
Premise Mode.Diagnostic t u = Unit {0}
