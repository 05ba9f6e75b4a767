-- The four lists of a reading, and how many records each list has.
use Rattle.std.specs.Prelude.{ℕ, ◌+◌, Bool, true, false, List, [], ◌∷◌, ◌++◌, eqb, length}
use Rattle.utf8.specs.Choice.{pick, both}
use Rattle.utf8.specs.Chars.{Ch}
use Rattle.frame.specs.Places.{snippet, span_of}
use Rattle.frame.specs.declared.TextPlace.{TextPlace}
use Rattle.frame.specs.declared.TextRange.{TextRange}
use Rattle.frame.specs.declared.Span.{Span}
use Rattle.frame.specs.declared.Frame.{Frame}
use Rattle.scan.specs.Ends.{span_across}
use Rattle.frame.specs.declared.Mode.{Mode}
use Rattle.closing.specs.declared.whole.Closing.{Closing}
use Rattle.reading.specs.Steps.{reading}
use Rattle.reading.specs.Faults.{faults_of, Finding, marked}
use Rattle.reading.specs.Records.{is_front, record_of}
use Rattle.reading.specs.Lines.{chars_in, ended_lines, line_start}
use Rattle.reading.specs.declared.Step.{Step}
use Rattle.reading.specs.declared.Piece.{Piece}
use Rattle.reading.specs.declared.ErrorRecord.{ErrorRecord}
use Rattle.reading.specs.declared.Counts.{Counts}

-- what each thing of a list gives, one after the other
unfoldable pub gather : {A B : Type 0} → (A → List B) → List A → List B
gather g [] = []
gather g (x ∷ xs) = g x ++ gather g xs

-- PIECES: a literal's view, or an argument (R5.1)
abbrev pub pieces_of : Step → List Piece
pieces_of Step.End = []
pieces_of (Step.Stop p) = []
pieces_of (Step.Literal r) = Piece.Literal r ∷ []
pieces_of (Step.Placeholder p) = Piece.Placeholder p.argument ∷ []

unfoldable pub pieces : List ℕ → Frame → Mode → List Piece
pieces t f m = gather pieces_of (reading t f m)

-- ERRORS: front records the last first, then back records in order
unfoldable pub front_only : List Finding → List Finding
front_only [] = []
front_only (x ∷ xs) = pick (is_front x.fault) (x ∷ front_only xs) (front_only xs)

unfoldable pub back_only : List Finding → List Finding
back_only [] = []
back_only (x ∷ xs) = pick (is_front x.fault) (back_only xs) (x ∷ back_only xs)

unfoldable pub reversed : List Finding → List Finding
reversed [] = []
reversed (x ∷ xs) = reversed xs ++ (x ∷ [])

-- "Added at the back: ..  Put at the front: .." (R7.2)
unfoldable pub listed : List Finding → List Finding
listed xs = reversed (front_only xs) ++ back_only xs

unfoldable pub records : List ℕ → Frame → List Finding → List ErrorRecord
records t f [] = []
records t f (x ∷ xs) = record_of t f x.piece x.fault ∷ records t f xs

-- what some steps found wrong, in the order of reading, where so many pieces were listed before them: a step's faults are recorded
-- before its own piece is listed (R7.3, R7.9)
unfoldable pub findings : ℕ → List Step → List Finding
findings n [] = []
findings n (x ∷ xs) = marked n (faults_of x) ++ findings (n + length (pieces_of x)) xs

-- what a reading found wrong
unfoldable pub found : List ℕ → Frame → Mode → List Finding
found t f m = findings 0 (reading t f m)

unfoldable pub errors : List ℕ → Frame → Mode → List ErrorRecord
errors t f m = records t f (listed (found t f m))

-- ARGUMENT PLACES: "closed placeholders, brace to brace" (R6.9)
abbrev pub closed_span : List ℕ → Frame → TextPlace → Closing → List Span
closed_span t f brace (Closing.Closed p) = span_across t f brace p ∷ []
closed_span t f brace (Closing.Missing gap on) = []

abbrev pub places_of : List ℕ → Frame → Step → List Span
places_of t f Step.End = []
places_of t f (Step.Stop p) = []
places_of t f (Step.Literal r) = []
places_of t f (Step.Placeholder p) = closed_span t f p.argument.range.start p.closing

-- "Only source literals give argument places .. and line spans." (R6.9)
unfoldable pub places : List ℕ → Frame → Mode → List Span
places t f m = pick f.literal (gather (places_of t f) (reading t f m)) []

-- LINE SPANS: the literal text that a step passes
abbrev pub missing_text : Closing → List TextRange
missing_text (Closing.Closed p) = []
missing_text (Closing.Missing gap on) = on.text ∷ []

-- (R6.10)
abbrev pub texts_of : Step → List TextRange
texts_of Step.End = []
texts_of (Step.Stop p) = []
texts_of (Step.Literal r) = r ∷ []
texts_of (Step.Placeholder p) = p.text ∷ missing_text p.closing

-- all literal text of a reading, in order
unfoldable pub literal_chars : List ℕ → List Step → List Ch
literal_chars t steps = gather (chars_in t) (gather texts_of steps)

-- whether a reading goes to the end of the text
abbrev pub is_end : Step → Bool
is_end Step.End = true
is_end (Step.Stop p) = false
is_end (Step.Literal r) = false
is_end (Step.Placeholder p) = false

unfoldable pub to_the_end : List Step → Bool
to_the_end [] = false
to_the_end (x ∷ xs) = pick (is_end x) true (to_the_end xs)

-- two spans are the same
unfoldable pub same_span : Span → Span → Bool
same_span a b = both (eqb a.start.0 b.start.0) (eqb a.end.0 b.end.0)

-- the last of some spans is this one
unfoldable pub is_last : Span → List Span → Bool
is_last x [] = false
is_last x (y ∷ []) = same_span x y
is_last x (y ∷ z ∷ zs) = is_last x (z ∷ zs)

-- the lines of literal text, the first of which starts after the quote. "At the end of the text the last line is added unless it equals
-- the previous one; a stop at a lone `}` adds none." (It never does: `last_differs` of OrderLaws.) (R6.14)
unfoldable pub lines_in : Frame → List Ch → Bool → List Span
lines_in f cs ended =
    let first = snippet f.quote in
    let before = ended_lines f first cs in
    let last = span_of (line_start f first cs) f.end in
    before ++ pick ended (pick (is_last last before) [] (last ∷ [])) []

unfoldable pub lines : List ℕ → Frame → Mode → List Span
lines t f m = pick f.literal (lines_in f (literal_chars t (reading t f m)) (to_the_end (reading t f m))) []

-- COUNTS: each is the length of its list (R1.6)
unfoldable pub counts_of : List ℕ → Frame → Mode → Counts
counts_of t f m =
    record {
      pieces = length (pieces t f m);
      errors = length (errors t f m);
      places = length (places t f m);
      lines = length (lines t f m);
    }
