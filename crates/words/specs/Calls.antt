-- The calls for other languages: the public call's answer and lists, as numbers.
use Rattle.std.specs.Prelude.{ℕ, ◌/◌, ◌≡◌, Bool, true, false, List, [], ◌∷◌, eqb, ltb, length, Option, Some, None}
use Rattle.utf8.specs.Choice.{pick}
use Rattle.frame.specs.declared.Frame.{Frame}
use Rattle.frame.specs.declared.Mode.{Mode}
use Rattle.reading.specs.Lists.{gather, pieces, errors, places, lines}
use Rattle.reading.specs.Answers.{answer_of, frame_for, mode_for}
use Rattle.reading.specs.Written.{over, pairs}
use Rattle.reading.specs.Exits.{at_exit}
use Rattle.reading.specs.declared.Request.{Request}
use Rattle.reading.specs.declared.Rooms.{Rooms}
use Rattle.reading.specs.declared.Answer.{Answer}
use Rattle.words.specs.Layout.{piece_words, error_words}

-- any mark but 0 is a yes
unfoldable pub is_yes : ℕ → Bool
is_yes n = pick (eqb n 0) false true

-- a style of 0 is none, any other is a raw string with so many hashes
unfoldable pub style_of : ℕ → ℕ → Option ℕ
style_of style hashes = pick (eqb style 0) None (Some hashes)

-- the request that numbers make (R9.1)
unfoldable pub request_of : ℕ → ℕ → ℕ → ℕ → ℕ → Request
request_of mode style hashes given newline =
    record {
      mode = mode;
      style = style_of style hashes;
      given = is_yes given;
      newline = is_yes newline;
    }

-- how many records lists of numbers have room for (R9.2)
unfoldable pub rooms_in : List ℕ → List ℕ → List ℕ → List ℕ → Rooms
rooms_in ps es ls ns = record { pieces = length ps / 40; errors = length es / 16; places = length ls / 2; lines = length ns / 2 }

-- the numbers of all pieces, and of all error records
unfoldable pub pieces_in : List ℕ → Frame → Mode → List ℕ
pieces_in t f m = gather piece_words (pieces t f m)

unfoldable pub errors_in : List ℕ → Frame → Mode → List ℕ
errors_in t f m = gather error_words (errors t f m)

-- an answer as eight numbers (R9.3)
unfoldable pub answer_words : Answer → List ℕ
answer_words a = a.number ∷ a.place ∷ a.counts.pieces ∷ a.counts.errors ∷ a.counts.places ∷ a.counts.lines ∷ a.arguments ∷ a.moves ∷ []

-- the answer's list is too short for them (R9.4)
unfoldable pub is_short : List ℕ → Bool
is_short out = ltb (length out) 8

-- A CALL: its number, and its lists before and after it, refused calls too (R9.1 to R9.4)
pub record Exported (t s : List ℕ) (q : Request) (ps ps' es es' ls ls' ns ns' out out' : List ℕ) (r : ℕ) : Type 0 where
  pub number : r ≡ pick (is_short out) 255 (answer_of t s q (rooms_in ps es ls ns)).number
  pub answer : out' ≡ pick (is_short out) out (over (answer_words (answer_of t s q (rooms_in ps es ls ns))) out)
  pub pieces : ps' ≡ at_exit r (pieces_in t (frame_for t s q) (mode_for q)) ps
  pub errors : es' ≡ at_exit r (errors_in t (frame_for t s q) (mode_for q)) es
  pub places : ls' ≡ at_exit r (pairs (places t (frame_for t s q) (mode_for q))) ls
  pub lines : ns' ≡ at_exit r (pairs (lines t (frame_for t s q) (mode_for q))) ns

-- lists that are never too short: no reading needs more records than this
abbrev pub wide : Rooms
wide = record { pieces = 0xFFFFFFFF; errors = 0xFFFFFFFF; places = 0xFFFFFFFF; lines = 0xFFFFFFFF }

-- A COUNT: the answer of a call with such lists (R9.5)
pub record Counted (t s : List ℕ) (q : Request) (out out' : List ℕ) (r : ℕ) : Type 0 where
  pub number : r ≡ pick (is_short out) 255 (answer_of t s q wide).number
  pub answer : out' ≡ pick (is_short out) out (over (answer_words (answer_of t s q wide)) out)
