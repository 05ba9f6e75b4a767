-- The plain form of what pieces say, part by part and from the left: "no optional whitespace, no leading zeros in any place or count .., no `.`
-- without precision, no colon without a spec". Rests on Said, and on the digits of a number and the bytes of a code.
use Rattle.std.specs.Prelude.{Bool, true, false, List, [], ◌∷◌, ◌++◌, ℕ, eqb}
use Prim.Native.Char.{code}
use Rattle.utf8.specs.Choice.{pick, either}
use Rattle.utf8.specs.Encode.{encode}
use Rattle.scan.specs.declared.Numeral.{Numeral}
use Rattle.placeholder.specs.declared.Align.{Align}
use Rattle.placeholder.specs.declared.Hex.{Hex}
use Rattle.placeholder.specs.declared.Sign.{Sign}
use Rattle.reading.specs.Lists.{gather}
use Rattle.pen.specs.Pens.{digits}
use Rattle.plain.specs.Said.{SaidPlace, next, at, named, SaidFill, unfilled, filled, SaidCount, implied, fixed, by_argument, by_star, by_name, SaidSpec, SaidPiece, literal, argument}

-- A NUMBER: its digits, "no leading zeros". One over range, which no accepted text has, is not known and writes nothing.
abbrev pub plain_number : Numeral → List ℕ
plain_number (Numeral.Within n) = digits n
plain_number Numeral.Over = []

-- A PLACE: an implicit one writes nothing
abbrev pub plain_place : SaidPlace → List ℕ
plain_place (next i) = []
plain_place (at n) = plain_number n
plain_place (named name) = name

-- THE PARTS OF A SPEC. A fill is kept, a space or a brace too: it is no optional whitespace
abbrev pub plain_fill : SaidFill → List ℕ
plain_fill unfilled = []
plain_fill (filled c) = encode c

abbrev pub plain_align : Align → List ℕ
plain_align Align.Unknown = []
plain_align Align.Left = code "<" ∷ []
plain_align Align.Right = code ">" ∷ []
plain_align Align.Center = code "^" ∷ []

abbrev pub plain_sign : Sign → List ℕ
plain_sign Sign.Absent = []
plain_sign Sign.Plus = code "+" ∷ []
plain_sign Sign.Minus = code "-" ∷ []

-- `#` or `0`: "a `0` flag is kept and is no part of the width"
abbrev pub plain_flag : ℕ → Bool → List ℕ
plain_flag c false = []
plain_flag c true = c ∷ []

abbrev pub plain_count : SaidCount → List ℕ
plain_count implied = []
plain_count (fixed n) = plain_number n
plain_count (by_argument n) = plain_number n ++ (code "$" ∷ [])
plain_count (by_star i) = code "*" ∷ []
plain_count (by_name name) = name ++ (code "$" ∷ [])

-- a mark before what follows it, and nothing where nothing follows: "no `.` without precision, no colon without a spec"
abbrev pub after : ℕ → List ℕ → List ℕ
after c [] = []
after c (b ∷ bs) = c ∷ b ∷ bs

-- the letter of `x?` or `X?`, whose text is the `?`
abbrev pub plain_hex : Hex → List ℕ
plain_hex Hex.Absent = []
plain_hex Hex.Lower = code "x" ∷ []
plain_hex Hex.Upper = code "X" ∷ []

-- A SPEC. In each mode the type's text starts behind the colon, so none takes it in: Diagnostic `{:}` says what `{}` does.
unfoldable pub plain_spec : SaidSpec → List ℕ
plain_spec x =
    plain_fill x.fill ++ (plain_align x.align ++ (plain_sign x.sign ++ (plain_flag (code "#") x.alternate ++ (plain_flag (code "0") x.zero ++
    (plain_count x.width ++ (after (code ".") (plain_count x.precision) ++ (plain_hex x.hex ++ x.typetext)))))))

-- A LITERAL whose view starts with a brace stood behind another: it is doubled again
abbrev pub is_brace : ℕ → Bool
is_brace b = either (eqb b (code "{")) (eqb b (code "}"))

abbrev pub doubled : List ℕ → List ℕ
doubled [] = []
doubled (b ∷ bs) = pick (is_brace b) (b ∷ b ∷ bs) (b ∷ bs)

-- A PIECE
abbrev pub plain_piece : SaidPiece → List ℕ
plain_piece (literal text) = doubled text
plain_piece (argument place spec) = code "{" ∷ (plain_place place ++ (after (code ":") (plain_spec spec) ++ (code "}" ∷ [])))

-- THE PLAIN FORM
unfoldable pub plain_form : List SaidPiece → List ℕ
plain_form xs = gather plain_piece xs
