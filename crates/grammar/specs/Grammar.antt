-- The grammar and the choice rules of document 01 for the three modes: the elements of a text, how each is written before what follows
-- it, and when it fits there. No reader is named here. Rests on the mode, the three questions about a character and UTF-8's bytes of a code.
use Rattle.std.specs.Prelude.{◌≡◌, ◌≢◌, ◌⊎◌, Bool, true, false, List, [], ◌∷◌, ◌++◌, ℕ, ◌+◌, ◌-◌, ◌*◌, ◌≤◌}
use Prim.Native.Char.{code}
use Rattle.letters.specs.Questions.{is_space, is_start, is_continue}
use Rattle.utf8.specs.Encode.{encode}
use Rattle.frame.specs.declared.Mode.{Mode}

-- CHARACTERS, each by its code

-- every character of a list is such a one
abbrev pub All : (ℕ → Type 0) → List ℕ → Type 0
All P [] = Unit {0}
All P (c ∷ cs) = P c × All P cs

-- whitespace, an identifier's start, its continuation
abbrev pub Space : ℕ → Type 0
Space c = is_space c ≡ true

abbrev pub Start : ℕ → Type 0
Start c = is_start c ≡ true

abbrev pub Continue : ℕ → Type 0
Continue c = is_continue c ≡ true

-- an ASCII digit
abbrev pub Digit : ℕ → Type 0
Digit c = (code "0" ≤ c) × (c ≤ code "9")

abbrev pub Brace : ℕ → Type 0
Brace c = (c ≡ code "{") ⊎ (c ≡ code "}")

-- no brace
abbrev pub Plain : ℕ → Type 0
Plain c = ¬ Brace c

-- "to the next brace or the end"
abbrev pub NextBrace : List ℕ → Type 0
NextBrace [] = Unit {0}
NextBrace (c ∷ t) = Brace c

-- NUMBERS AND WORDS, the first character apart, so that none is empty

-- what digits come to after the number n
abbrev pub value : ℕ → List ℕ → ℕ
value n [] = n
value n (d ∷ ds) = value (n * 10 + (d - code "0")) ds

-- "A number is one or more ASCII digits." "In this grammar no number passes 65,535" (R3.7, R4.5)
pub record Number (d : ℕ) (ds : List ℕ) : Type 0 where
  pub first : Digit d
  pub others : All Digit ds
  pub small : value 0 (d ∷ ds) ≤ 65535

-- "A word is one start and then continuations", "and no word is `_`". That it is "taken as far as they go" need not be a rule: what may follow
-- a word in a placeholder is whitespace, `:`, `$` or `}`, and none is a continuation, so a word that stopped short could not be followed. (R3.5, R4.5)
pub record Word (c : ℕ) (r : List ℕ) : Type 0 where
  pub first : Start c
  pub others : All Continue r
  pub named : c ∷ r ≢ code "_" ∷ []

-- PLACE: "A place is a number, a word, or nothing." (R4.5)
pub data Position : Type 0 where
  next : Position
  number word : ℕ → List ℕ → Position

abbrev pub written_position : Position → List ℕ → List ℕ
written_position next t = t
written_position (number d ds) t = d ∷ (ds ++ t)
written_position (word c r) t = c ∷ (r ++ t)

abbrev pub FitsPosition : Position → Type 0
FitsPosition next = Unit {0}
FitsPosition (number d ds) = Number d ds
FitsPosition (word c r) = Word c r

-- FILL AND ALIGN: "Fill needs an align of `<`, `>`, `^`; align may stand alone."
pub data Alignment : Type 0 where
  left right center : Alignment

abbrev pub align_char : Alignment → ℕ
align_char left = code "<"
align_char right = code ">"
align_char center = code "^"

-- (R4.7)
pub data Lead : Type 0 where
  unaligned : Lead
  aligned : Alignment → Lead
  filled : ℕ → Alignment → Lead

abbrev pub written_lead : Lead → List ℕ → List ℕ
written_lead unaligned t = t
written_lead (aligned a) t = align_char a ∷ t
written_lead (filled c a) t = c ∷ align_char a ∷ t

-- "sign `+` `-`"
pub data Signed : Type 0 where
  unsigned plus minus : Signed

abbrev pub written_sign : Signed → List ℕ → List ℕ
written_sign unsigned t = t
written_sign plus t = code "+" ∷ t
written_sign minus t = code "-" ∷ t

-- a flag, `#` or `0`, that stands or not
abbrev pub written_flag : ℕ → Bool → List ℕ → List ℕ
written_flag c false t = t
written_flag c true t = c ∷ t

-- WIDTH: "A width is a number, number`$` or word`$`." (R4.8)
pub data Width : Type 0 where
  implied : Width
  fixed by_argument by_name : ℕ → List ℕ → Width

abbrev pub written_width : Width → List ℕ → List ℕ
written_width implied t = t
written_width (fixed d ds) t = d ∷ (ds ++ t)
written_width (by_argument d ds) t = d ∷ (ds ++ (code "$" ∷ t))
written_width (by_name c r) t = c ∷ (r ++ (code "$" ∷ t))

abbrev pub FitsWidth : Width → Type 0
FitsWidth implied = Unit {0}
FitsWidth (fixed d ds) = Number d ds
FitsWidth (by_argument d ds) = Number d ds
FitsWidth (by_name c r) = Word c r

-- PRECISION: "`.` with precision"; "Precision is the same, or `*`, or nothing." (R4.9)
pub data Precision : Type 0 where
  undotted : Precision
  star : Precision
  dot : Width → Precision

abbrev pub written_precision : Precision → List ℕ → List ℕ
written_precision undotted t = t
written_precision star t = code "." ∷ code "*" ∷ t
written_precision (dot w) t = code "." ∷ written_width w t

abbrev pub FitsPrecision : Precision → Type 0
FitsPrecision undotted = Unit {0}
FitsPrecision star = Unit {0}
FitsPrecision (dot w) = FitsWidth w

-- TYPE: "Type is `?`, `x?`, `X?`, `x`, `X`, or a word not starting with x or X."
pub data Letter : Type 0 where
  lower upper : Letter

abbrev pub letter_char : Letter → ℕ
letter_char lower = code "x"
letter_char upper = code "X"

-- (R4.10)
pub data Typing : Type 0 where
  untyped : Typing
  debug : Typing
  hex_debug hex : Letter → Typing
  typed : ℕ → List ℕ → Typing

abbrev pub written_typing : Typing → List ℕ → List ℕ
written_typing untyped t = t
written_typing debug t = code "?" ∷ t
written_typing (hex_debug x) t = letter_char x ∷ code "?" ∷ t
written_typing (hex x) t = letter_char x ∷ t
written_typing (typed c r) t = c ∷ (r ++ t)

abbrev pub FitsTyping : Typing → Type 0
FitsTyping untyped = Unit {0}
FitsTyping debug = Unit {0}
FitsTyping (hex_debug x) = Unit {0}
FitsTyping (hex x) = Unit {0}
FitsTyping (typed c r) = Word c r × ((x : Letter) → c ≢ letter_char x)

-- FORMAT SPEC: "each part optional and in this order: fill and align; sign; `#`; `0`; width; `.` with precision; type" (R4.6)
pub record FormatSpec : Type 0 where
  pub lead : Lead
  pub sign : Signed
  pub alternate : Bool
  pub zero : Bool
  pub width : Width
  pub precision : Precision
  pub typing : Typing

-- from the width on
abbrev pub from_width : FormatSpec → List ℕ → List ℕ
from_width f t = written_width f.width (written_precision f.precision (written_typing f.typing t))

-- from the flag `0`'s place on
abbrev pub from_zero : FormatSpec → List ℕ → List ℕ
from_zero f t = written_flag (code "0") f.zero (from_width f t)

abbrev pub written_format : FormatSpec → List ℕ → List ℕ
written_format f t = written_lead f.lead (written_sign f.sign (written_flag (code "#") f.alternate (from_zero f t)))

pub record FitsFormat (f : FormatSpec) (t : List ℕ) : Type 0 where
  -- "if the second character after the colon is an align, the first is the fill, even a brace"
  pub choice1 : (c : ℕ) (a : Alignment) (u : List ℕ) → written_format f t ≡ c ∷ align_char a ∷ u → f.lead ≡ filled c a
  -- "a `0` at the flag's place is the flag unless `$` follows directly"
  pub choice2 : (u : List ℕ) → from_zero f t ≡ code "0" ∷ u → ((v : List ℕ) → u ≢ code "$" ∷ v) → f.zero ≡ true
  -- "then `0$` is the width"
  pub choice2$ : (v : List ℕ) → from_zero f t ≡ code "0" ∷ code "$" ∷ v → f.width ≡ by_argument (code "0") []
  pub width : FitsWidth f.width
  pub precision : FitsPrecision f.precision
  pub typing : FitsTyping f.typing

-- THE SPEC OF EACH MODE: "InlineAsm spec: a word, or nothing. Diagnostic spec: any text without braces"
pub data SpecText : Type 0 where
  format_spec : FormatSpec → SpecText
  unmodified : SpecText
  modifier : ℕ → List ℕ → SpecText
  free_text : List ℕ → SpecText

abbrev pub written_spec : SpecText → List ℕ → List ℕ
written_spec (format_spec f) t = written_format f t
written_spec unmodified t = t
written_spec (modifier c r) t = c ∷ (r ++ t)
written_spec (free_text r) t = r ++ t

-- "trailing whitespace included": in Diagnostic mode the spec goes to the next brace
abbrev pub FitsSpec : Mode → SpecText → List ℕ → Type 0
FitsSpec Mode.Format (format_spec f) t = FitsFormat f t
FitsSpec Mode.Format unmodified t = ⊥
FitsSpec Mode.Format (modifier c r) t = ⊥
FitsSpec Mode.Format (free_text r) t = ⊥
FitsSpec Mode.InlineAsm (format_spec f) t = ⊥
FitsSpec Mode.InlineAsm unmodified t = Unit {0}
FitsSpec Mode.InlineAsm (modifier c r) t = Word c r
FitsSpec Mode.InlineAsm (free_text r) t = ⊥
FitsSpec Mode.Diagnostic (format_spec f) t = ⊥
FitsSpec Mode.Diagnostic unmodified t = ⊥
FitsSpec Mode.Diagnostic (modifier c r) t = ⊥
FitsSpec Mode.Diagnostic (free_text r) t = All Plain r × NextBrace t

-- PLACEHOLDER, between its braces: "place, whitespace, optionally `:` and a spec, whitespace".
-- Choice 3, "whitespace before a colon, or with no colon, belongs to the place": what follows no colon has no whitespace of its own. (R4.15)
pub data Tail : Type 0 where
  bare : Tail
  colon : SpecText → List ℕ → Tail

abbrev pub written_tail : Tail → List ℕ → List ℕ
written_tail bare t = t
written_tail (colon s w) t = code ":" ∷ written_spec s (w ++ t)

abbrev pub FitsTail : Mode → Tail → List ℕ → Type 0
FitsTail m bare t = Unit {0}
FitsTail m (colon s w) t = FitsSpec m s (w ++ t) × All Space w

-- (R4.4)
pub record Inside : Type 0 where
  pub position : Position
  pub space : List ℕ
  pub tail : Tail

abbrev pub written_inside : Inside → List ℕ → List ℕ
written_inside a t = written_position a.position (a.space ++ written_tail a.tail t)

pub record FitsInside (m : Mode) (a : Inside) (t : List ℕ) : Type 0 where
  pub position : FitsPosition a.position
  pub space : All Space a.space
  pub tail : FitsTail m a.tail t

-- ELEMENTS: "a non-empty run without braces; `{{` or `}}` with the run after it, perhaps empty; a placeholder" (R4.1)
pub data Element : Type 0 where
  run : ℕ → List ℕ → Element
  opened closed : List ℕ → Element
  placeholder : Inside → Element

abbrev pub written : Element → List ℕ → List ℕ
written (run c r) t = c ∷ (r ++ t)
written (opened r) t = code "{" ∷ code "{" ∷ (r ++ t)
written (closed r) t = code "}" ∷ code "}" ∷ (r ++ t)
written (placeholder a) t = code "{" ∷ written_inside a (code "}" ∷ t)

-- "Each run goes to the next brace or the end." (R4.2)
abbrev pub Fits : Mode → Element → List ℕ → Type 0
Fits m (run c r) t = Plain c × All Plain r × NextBrace t
Fits m (opened r) t = All Plain r × NextBrace t
Fits m (closed r) t = All Plain r × NextBrace t
Fits m (placeholder a) t = FitsInside m a (code "}" ∷ t)

abbrev pub written_all : List Element → List ℕ → List ℕ
written_all [] t = t
written_all (e ∷ es) t = written e (written_all es t)

abbrev pub FitsAll : Mode → List Element → List ℕ → Type 0
FitsAll m [] t = Unit {0}
FitsAll m (e ∷ es) t = Fits m e (written_all es t) × FitsAll m es t

-- A READING: "a list of elements that spell the text"

-- the bytes that spell codes, one after the other
unfoldable pub utf8 : List ℕ → List ℕ
utf8 [] = []
utf8 (c ∷ cs) = encode c ++ utf8 cs

-- elements that fit, and whose UTF-8 is the text (R4.1, R4.3)
pub record Reading (m : Mode) (text : List ℕ) (es : List Element) : Type 0 where
  pub fits : FitsAll m es []
  pub spelled : utf8 (written_all es []) ≡ text
