-- The answer of the public call, and its refusals.
use Rattle.std.specs.Prelude.{ℕ, ◌-◌, Bool, true, false, not, List, [], ◌∷◌, eqb, leb, ltb, length, get_or, Option, Some, None}
use Prim.Native.Char.{code}
use Rattle.utf8.specs.Choice.{pick, either}
use Rattle.utf8.specs.Utf8.{valid_prefix}
use Rattle.frame.specs.Frames.{frame_of}
use Rattle.frame.specs.declared.Frame.{Frame}
use Rattle.frame.specs.declared.Mode.{Mode}
use Rattle.reading.specs.Lists.{pieces, counts_of}
use Rattle.reading.specs.Moves.{moves}
use Rattle.reading.specs.Wants.{wants}
use Rattle.reading.specs.declared.Counts.{Counts}
use Rattle.reading.specs.declared.Request.{Request}
use Rattle.reading.specs.declared.Rooms.{Rooms}
use Rattle.reading.specs.declared.Answer.{Answer}

-- "The counts are the records needed for 0 and 6 to 9, else 0." (R1.6)
abbrev pub no_counts : Counts
no_counts =
    record {
      pieces = 0;
      errors = 0;
      places = 0;
      lines = 0;
    }

abbrev pub answered : ℕ → ℕ → Counts → ℕ → ℕ → Answer
answered number at counts arguments moves = record { number = number; place = at; counts = counts; arguments = arguments; moves = moves }

-- 2: "style above 255 hashes, or a snippet without a style" (R2.2)
abbrev pub is_styled : Option ℕ → Bool → Bool
is_styled None given = pick given false true
is_styled (Some h) given = leb h 255

abbrev pub style_of : Option ℕ → Option ℕ
style_of None = None
style_of (Some h) = pick (leb h 255) (Some h) None

-- 3: "text over 65,535 bytes or snippet over 66,048" (R2.3)
unfoldable pub is_long : List ℕ → Bool → List ℕ → Bool
is_long t given s = pick (ltb 65535 (length t)) true (pick given (ltb 66048 (length s)) false)

-- 4: "text is not UTF-8" (R2.4)
unfoldable pub is_broken : List ℕ → Bool
is_broken t = ltb (valid_prefix t) (length t)

unfoldable pub ends_in_newline : List ℕ → Bool
ends_in_newline t = pick (eqb (length t) 0) false (eqb (get_or t (length t - 1) 0) (code "\n"))

-- 5: "newline marked as appended, and the text does not end in one" (R2.5)
unfoldable pub lacks_newline : List ℕ → Bool → Bool
lacks_newline t newline = pick newline (pick (ends_in_newline t) false true) false

-- "a mode (0 Format, 1 InlineAsm, 2 Diagnostic)" (R1.1)
unfoldable pub mode_of : ℕ → Mode
mode_of n = pick (eqb n 0) Mode.Format (pick (eqb n 1) Mode.InlineAsm Mode.Diagnostic)

-- the frame and the mode of a call
unfoldable pub frame_for : List ℕ → List ℕ → Request → Frame
frame_for t s q = frame_of t (style_of q.style) q.given s q.newline

abbrev pub mode_for : Request → Mode
mode_for q = mode_of q.mode

-- a reason to refuse a call, and its number
pub record Refusal : Type 0 where
  pub test : Bool
  pub number : ℕ

abbrev pub refusal : ℕ → Bool → Refusal
refusal number test = record { test = test; number = number }

-- THE REFUSALS, "checked in this order", where a reading needs so many records (R2.1 to R2.9)
abbrev pub refusals : List ℕ → List ℕ → Request → Counts → Rooms → List Refusal
refusals t s q c r =
    refusal 1 (ltb 2 q.mode) ∷
    refusal 2 (not (is_styled q.style q.given)) ∷
    refusal 3 (is_long t q.given s) ∷
    refusal 4 (is_broken t) ∷
    refusal 5 (lacks_newline t q.newline) ∷
    -- "pieces, errors, argument places or line spans need more records than their list has"
    refusal 6 (ltb r.pieces c.pieces) ∷
    refusal 7 (ltb r.errors c.errors) ∷
    refusal 8 (ltb r.places c.places) ∷
    refusal 9 (ltb r.lines c.lines) ∷
    []

-- the number of the first that holds, or 0
unfoldable pub first_of : List Refusal → ℕ
first_of [] = 0
first_of (x ∷ xs) = pick x.test x.number (first_of xs)

-- "The place is the length of the longest valid prefix for 4, else 0. The counts are the records needed for 0 and 6 to 9, else 0." (R1.5, R1.6)
-- How many arguments the pieces want is said where they are listed: for 0, else 0. (R1.12) And so with the moves: "Every refusal reports 0." (R1.13)
unfoldable pub answer_by : ℕ → ℕ → Counts → ℕ → ℕ → Answer
answer_by number prefix counts arguments moves =
    answered number (pick (eqb number 4) prefix 0) (pick (either (eqb number 0) (ltb 5 number)) counts no_counts) (pick (eqb number 0) arguments 0)
    (pick (eqb number 0) moves 0)

-- THE ANSWER (R1.2)
unfoldable pub answer_of : List ℕ → List ℕ → Request → Rooms → Answer
answer_of t s q r =
    let f = frame_for t s q in
    let m = mode_for q in
    let counts = counts_of t f m in
    answer_by (first_of (refusals t s q counts r)) (valid_prefix t) counts (wants (pieces t f m)) (moves t f m)
