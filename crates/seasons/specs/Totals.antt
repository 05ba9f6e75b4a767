-- THE TOTALS of a text and of many: for each line of the report, how often a text counts in it. Rests on the pieces and the errors of a reading.
use Rattle.std.specs.Prelude.{false, List, [], ◌∷◌, ◌++◌, ℕ, zero, suc, ◌+◌, eqb, replicate, None}
use Rattle.utf8.specs.Choice.{pick}
use Rattle.frame.specs.declared.Mode.{Mode}
use Rattle.scan.specs.declared.Count.{Count}
use Rattle.scan.specs.declared.Numeral.{Numeral}
use Rattle.placeholder.specs.declared.Place.{Place}
use Rattle.reading.specs.Answers.{is_broken, frame_for}
use Rattle.reading.specs.Lists.{gather, pieces, errors}
use Rattle.reading.specs.declared.ErrorRecord.{ErrorRecord}
use Rattle.reading.specs.declared.Piece.{Piece}
use Rattle.reading.specs.declared.Request.{Request}

-- THE LINES, counted from 0: "texts, those refused (by 4), texts without errors, pieces (literal, next, at, over, named), errors of kinds 1 to
-- 15, stars" (R14.4)
abbrev pub texts : ℕ
texts = 0

abbrev pub refused : ℕ
refused = 1

abbrev pub sound : ℕ
sound = 2

abbrev pub literals : ℕ
literals = 3

abbrev pub nexts : ℕ
nexts = 4

abbrev pub numbers : ℕ
numbers = 5

abbrev pub overs : ℕ
overs = 6

abbrev pub names : ℕ
names = 7

abbrev pub kind : ℕ → ℕ
kind k = k + 7

abbrev pub stars : ℕ
stars = 23

-- a number as a place: one within range, or one over it
abbrev pub number_line : Numeral → ℕ
number_line (Numeral.Within n) = numbers
number_line Numeral.Over = overs

abbrev pub place_line : Place → ℕ
place_line (Place.Next i) = nexts
place_line (Place.At n) = number_line n
place_line (Place.Named r) = names

-- a precision that is a star
abbrev pub star_lines : Count → List ℕ
star_lines Count.Implied = []
star_lines (Count.Fixed n) = []
star_lines (Count.ByName r s) = []
star_lines (Count.ByArgument i) = []
star_lines (Count.ByStar i) = stars ∷ []

-- THE LINES THAT A PIECE COUNTS IN: one of five, and "stars" for a star of its own. A field met in recovery is no piece (R14.5)
abbrev pub piece_lines : Piece → List ℕ
piece_lines (Piece.Literal r) = literals ∷ []
piece_lines (Piece.Placeholder a) = place_line a.place ∷ star_lines a.spec.precision

-- that an error counts in: its kind's
abbrev pub error_lines : ErrorRecord → List ℕ
error_lines e = kind e.kind ∷ []

-- that a text without errors counts in
abbrev pub sound_lines : List ErrorRecord → List ℕ
sound_lines [] = sound ∷ []
sound_lines (e ∷ es) = []

-- "Format texts, no style": nothing else is asked for
abbrev pub plain : Request
plain = record { mode = 0; style = None; given = false; newline = false }

-- that the reading of a text counts in
unfoldable pub read_lines : List ℕ → List ℕ
read_lines t =
    let f = frame_for t [] plain in
    let es = errors t f Mode.Format in
    sound_lines es ++ (gather piece_lines (pieces t f Mode.Format) ++ gather error_lines es)

-- THE LINES THAT A TEXT COUNTS IN, each as often as it counts there. A refused text counts in "texts" and "refused" only (R14.3)
unfoldable pub counted_in : List ℕ → List ℕ
counted_in t = texts ∷ pick (is_broken t) (refused ∷ []) (read_lines t)

-- how often a number stands among some
unfoldable pub times : ℕ → List ℕ → ℕ
times i [] = 0
times i (x ∷ xs) = pick (eqb i x) 1 0 + times i xs

-- how often each of n numbers does, from i on
unfoldable pub tallied : ℕ → ℕ → List ℕ → List ℕ
tallied i zero xs = []
tallied i (suc n) xs = times i xs ∷ tallied (suc i) n xs

-- A TEXT'S OWN TOTALS, one for each line (R14.4)
unfoldable pub own : List ℕ → List ℕ
own t = tallied 0 24 (counted_in t)

-- line by line
unfoldable pub plus : List ℕ → List ℕ → List ℕ
plus [] ys = []
plus (x ∷ xs) [] = x ∷ xs
plus (x ∷ xs) (y ∷ ys) = (x + y) ∷ plus xs ys

abbrev pub zeros : List ℕ
zeros = replicate 24 0

-- "Totals equal sums over each text's own reading" (R14.6)
unfoldable pub sums : List (List ℕ) → List ℕ
sums [] = zeros
sums (t ∷ ts) = plus (own t) (sums ts)
