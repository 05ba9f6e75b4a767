-- The pieces of elements: every number, byte range and span of each record, from the elements, the byte where they stand, the next argument's
-- number and the quote offset. Rests on Grammar and on the records that the reader declares; no reader is named here.
use Rattle.std.specs.Prelude.{false, List, [], ◌∷◌, ℕ, ◌+◌, length, Option, Some, None}
use Prim.Native.Char.{code}
use Rattle.utf8.specs.Encode.{encode}
use Rattle.frame.specs.Places.{place, range_of, snippet, span_of}
use Rattle.frame.specs.declared.TextRange.{TextRange}
use Rattle.frame.specs.declared.Span.{Span}
use Rattle.scan.specs.declared.Count.{Count}
use Rattle.scan.specs.declared.Numeral.{Numeral}
use Rattle.placeholder.specs.declared.Place.{Place}
use Rattle.placeholder.specs.declared.Fill.{Fill}
use Rattle.placeholder.specs.declared.Align.{Align}
use Rattle.placeholder.specs.declared.Sign.{Sign}
use Rattle.placeholder.specs.declared.Hex.{Hex}
use Rattle.placeholder.specs.declared.Spec.{Spec}
use Rattle.placeholder.specs.declared.Argument.{Argument}
use Rattle.reading.specs.declared.Piece.{Piece}
use Rattle.grammar.specs.Grammar.{value, Position, next, number, word, Alignment, left, right, center, Lead, unaligned, aligned, filled, Signed, unsigned, plus, minus, Width, implied, fixed, by_argument, by_name, Precision, undotted, star, dot, Letter, lower, upper, Typing, untyped, debug, hex_debug, hex, typed, FormatSpec, SpecText, format_spec, unmodified, modifier, free_text, Tail, bare, colon, Inside, Element, run, opened, closed, placeholder}
use Rattle.grammar.specs.Grammar.{written_position, written_lead, written_sign, written_flag, written_width, written_precision, written}
use Rattle.placeholder.specs.Filling.{filling}

-- BYTES
-- how many bytes spell a code
unfoldable pub wide : ℕ → ℕ
wide c = length (encode c)

-- how many bytes spell codes
unfoldable pub size : List ℕ → ℕ
size [] = 0
size (c ∷ cs) = wide c + size cs

-- the bytes from one place to another
abbrev pub bytes : ℕ → ℕ → TextRange
bytes a b = range_of (place a) (place b)

-- the bytes of codes that stand at a place
abbrev pub bytes_at : ℕ → List ℕ → TextRange
bytes_at p cs = bytes p (p + size cs)

-- WHERE an element ends: where what it writes ends
abbrev pub end_of : ℕ → Element → ℕ
end_of p e = p + size (written e [])

-- where what follows a place and its whitespace is written, in a placeholder at byte p
abbrev pub tail_at : ℕ → Inside → ℕ
tail_at p a = p + 1 + size (written_position a.position a.space)

-- where the width, the precision and the type of a Format spec at byte p are written
abbrev pub width_at : ℕ → FormatSpec → ℕ
width_at p f = p + size (written_lead f.lead (written_sign f.sign (written_flag (code "#") f.alternate (written_flag (code "0") f.zero []))))

abbrev pub precision_at : ℕ → FormatSpec → ℕ
precision_at p f = width_at p f + size (written_width f.width [])

abbrev pub type_at : ℕ → FormatSpec → ℕ
type_at p f = precision_at p f + size (written_precision f.precision [])

-- NUMBERS of arguments: a star takes the next one, and so does a place that is not written
abbrev pub past_precision : ℕ → Precision → ℕ
past_precision n undotted = n
past_precision n star = n + 1
past_precision n (dot w) = n

abbrev pub past_spec : ℕ → SpecText → ℕ
past_spec n (format_spec f) = past_precision n f.precision
past_spec n unmodified = n
past_spec n (modifier c r) = n
past_spec n (free_text r) = n

abbrev pub past_tail : ℕ → Tail → ℕ
past_tail n bare = n
past_tail n (colon s w) = past_spec n s

abbrev pub past_position : ℕ → Position → ℕ
past_position n next = n + 1
past_position n (number d ds) = n
past_position n (word c r) = n

-- "A place is counted after its spec, so a star comes first."
abbrev pub past_inside : ℕ → Inside → ℕ
past_inside n a = past_position (past_tail n a.tail) a.position

abbrev pub past : ℕ → Element → ℕ
past n (run c r) = n
past n (opened r) = n
past n (closed r) = n
past n (placeholder a) = past_inside n a

-- WHAT IS WRITTEN AT BYTE p, where the next argument has number n, as the record says it
-- a place
abbrev pub place_of : ℕ → ℕ → Position → Place
place_of p n next = Place.Next n
place_of p n (number d ds) = Place.At (Numeral.Within (value 0 (d ∷ ds)))
place_of p n (word c r) = Place.Named (bytes_at p (c ∷ r))

-- an align
abbrev pub side_of : Alignment → Align
side_of left = Align.Left
side_of right = Align.Right
side_of center = Align.Center

abbrev pub align_of : Lead → Align
align_of unaligned = Align.Unknown
align_of (aligned a) = side_of a
align_of (filled c a) = side_of a

-- a sign
abbrev pub sign_of : Signed → Sign
sign_of unsigned = Sign.Absent
sign_of plus = Sign.Plus
sign_of minus = Sign.Minus

-- a type's text, which for `x?` and `X?` is the `?`, and which of the two letters stands before that
abbrev pub type_text : ℕ → Typing → TextRange
type_text p untyped = bytes p p
type_text p debug = bytes p (p + 1)
type_text p (hex_debug x) = bytes (p + 1) (p + 2)
type_text p (hex x) = bytes p (p + 1)
type_text p (typed c r) = bytes_at p (c ∷ r)

abbrev pub letter_of : Letter → Hex
letter_of lower = Hex.Lower
letter_of upper = Hex.Upper

abbrev pub hex_of : Typing → Hex
hex_of untyped = Hex.Absent
hex_of debug = Hex.Absent
hex_of (hex_debug x) = letter_of x
hex_of (hex x) = Hex.Absent
hex_of (typed c r) = Hex.Absent

-- a spec that has a type's text and span and nothing else
abbrev pub type_only : TextRange → Option Span → Spec
type_only r s =
    record {
      fill = None;
      align = Align.Unknown;
      sign = Sign.Absent;
      alternate = false;
      zero = false;
      hex = Hex.Absent;
      width = Count.Implied;
      widthspan = None;
      precision = Count.Implied;
      precisionspan = None;
      typetext = r;
      typespan = s;
    }

-- WITH ITS SPANS, for a quote offset q
module _ (q : ℕ) where
  -- "A character at byte i of n bytes has span i+q to i+q+n": from one byte to another
  abbrev pub spanned : ℕ → ℕ → Span
  spanned a b = span_of (snippet (a + q)) (snippet (b + q))

  abbrev pub present : ℕ → ℕ → Option Span
  present a b = Some (spanned a b)

  -- a fill has its character's span
  abbrev pub fill_of : ℕ → Lead → Option Fill
  fill_of p unaligned = None
  fill_of p (aligned a) = None
  fill_of p (filled c a) = filling c (spanned p (p + wide c))

  -- a count by name has its word's span
  abbrev pub count_of : ℕ → Width → Count
  count_of p implied = Count.Implied
  count_of p (fixed d ds) = Count.Fixed (Numeral.Within (value 0 (d ∷ ds)))
  count_of p (by_argument d ds) = Count.ByArgument (Numeral.Within (value 0 (d ∷ ds)))
  count_of p (by_name c r) = Count.ByName (bytes_at p (c ∷ r)) (spanned p (p + size (c ∷ r)))

  -- a width that stands has the span of all that is written, its `$` included
  abbrev pub width_span : ℕ → Width → Option Span
  width_span p implied = None
  width_span p (fixed d ds) = present p (p + size (written_width (fixed d ds) []))
  width_span p (by_argument d ds) = present p (p + size (written_width (by_argument d ds) []))
  width_span p (by_name c r) = present p (p + size (written_width (by_name c r) []))

  -- a precision: a star takes the next argument's number
  abbrev pub precision_of : ℕ → ℕ → Precision → Count
  precision_of p n undotted = Count.Implied
  precision_of p n star = Count.ByStar n
  precision_of p n (dot w) = count_of (p + 1) w

  -- its span starts at its dot
  abbrev pub precision_span : ℕ → Precision → Option Span
  precision_span p undotted = None
  precision_span p star = present p (p + 2)
  precision_span p (dot w) = present p (p + 1 + size (written_width w []))

  -- a type that is a word has its span, and no other has one
  abbrev pub type_span : ℕ → Typing → Option Span
  type_span p untyped = None
  type_span p debug = None
  type_span p (hex_debug x) = None
  type_span p (hex x) = None
  type_span p (typed c r) = present p (p + size (c ∷ r))

  -- A FORMAT SPEC at byte p
  unfoldable pub format_at : ℕ → ℕ → FormatSpec → Spec
  format_at p n f =
      record {
        fill = fill_of p f.lead;
        align = align_of f.lead;
        sign = sign_of f.sign;
        alternate = f.alternate;
        zero = f.zero;
        hex = hex_of f.typing;
        width = count_of (width_at p f) f.width;
        widthspan = width_span (width_at p f) f.width;
        precision = precision_of (precision_at p f) n f.precision;
        precisionspan = precision_span (precision_at p f) f.precision;
        typetext = type_text (type_at p f) f.typing;
        typespan = type_span (type_at p f) f.typing;
      }

  -- THE SPEC of each mode, its colon at byte p; a Diagnostic one's span takes in the colon
  abbrev pub spec_at : ℕ → ℕ → SpecText → Spec
  spec_at p n (format_spec f) = format_at (p + 1) n f
  spec_at p n unmodified = type_only (bytes (p + 1) (p + 1)) None
  spec_at p n (modifier c r) = type_only (bytes_at (p + 1) (c ∷ r)) (present (p + 1) (p + 1 + size (c ∷ r)))
  spec_at p n (free_text r) = type_only (bytes_at (p + 1) r) (present p (p + 1 + size r))

  -- with no colon, the type's text is the empty range where reading stood
  abbrev pub after_place : ℕ → ℕ → Tail → Spec
  after_place p n bare = type_only (bytes p p) None
  after_place p n (colon s w) = spec_at p n s

  -- A PLACEHOLDER at byte p: its range is brace to brace; choice 3, "whitespace .. belongs to the place", so the place's span takes it in
  unfoldable pub argument_at : ℕ → ℕ → Inside → Argument
  argument_at p n a =
      record {
        place = place_of (p + 1) (past_tail n a.tail) a.position;
        placespan = spanned (p + 1) (tail_at p a);
        spec = after_place (tail_at p a) n a.tail;
        range = bytes p (end_of p (placeholder a));
      }

  -- A PIECE: a run's view is its bytes; "A literal's view starts at the second brace of a doubled one."
  abbrev pub piece_at : ℕ → ℕ → Element → Piece
  piece_at p n (run c r) = Piece.Literal (bytes p (end_of p (run c r)))
  piece_at p n (opened r) = Piece.Literal (bytes (p + 1) (end_of p (opened r)))
  piece_at p n (closed r) = Piece.Literal (bytes (p + 1) (end_of p (closed r)))
  piece_at p n (placeholder a) = Piece.Placeholder (argument_at p n a)

  -- THE PIECES of elements that stand from byte p on, one to one and in order (R5.2, R5.3)
  unfoldable pub pieces_of : ℕ → ℕ → List Element → List Piece
  pieces_of p n [] = []
  pieces_of p n (e ∷ es) = piece_at p n e ∷ pieces_of (end_of p e) (past n e) es
