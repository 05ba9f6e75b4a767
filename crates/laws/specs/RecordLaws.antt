-- A fault's record field by field, as it is made: its kind, span, second span, what is quoted and the suggestion, and that these are the record.
-- Rests on Records.
use Rattle.std.specs.Prelude.{ℕ, ◌≡◌, refl, List, Option, Some, None}
use Rattle.frame.specs.Places.{span_of}
use Rattle.frame.specs.Spans.{span_between}
use Rattle.frame.specs.declared.Span.{Span}
use Rattle.frame.specs.declared.Frame.{Frame}
use Rattle.scan.specs.Characters.{past_at}
use Rattle.scan.specs.Ends.{span_across}
use Rattle.reading.specs.Records.{error_of, character_at, span_at, record_of}
use Rattle.reading.specs.declared.Fault.{Fault}
use Rattle.frame.specs.declared.TextRange.{TextRange}

-- document 01's number of each kind; nothing wrong has none
abbrev pub kind_of : Fault → ℕ
kind_of Fault.Clean = 0
kind_of (Fault.Unmatched p) = 1
kind_of (Fault.Expected p why) = 2
kind_of (Fault.Unclosed why) = 3
kind_of (Fault.RawName r) = 4
kind_of (Fault.AfterDebug p) = 5
kind_of (Fault.Underscore r) = 6
kind_of (Fault.TooLarge r) = 7
kind_of (Fault.DebugFirst p r) = 8
kind_of (Fault.NoColon p) = 9
kind_of (Fault.Equals p brace) = 10
kind_of (Fault.Misplaced p) = 11
kind_of (Fault.PlusFirst p) = 12
kind_of (Fault.Field a b) = 13
kind_of (Fault.TupleIndex a b) = 14
kind_of (Fault.Comma p brace) = 15

module _ (t : List ℕ) (f : Frame) where
  -- a character's own span; an empty one before it (2) or at "end" (3); a word's or a field's, to where the next character starts
  -- (4, 6, 13, 14); digits with the next character taken in (7); the sign after the `?` (5)
  abbrev pub span_of_fault : Fault → Span
  span_of_fault Fault.Clean = span_of f.end f.end
  span_of_fault (Fault.Unmatched p) = span_across t f p p
  span_of_fault (Fault.Expected p why) = span_between t f p p
  span_of_fault (Fault.Unclosed why) = span_of f.end f.end
  span_of_fault (Fault.RawName r) = span_between t f r.start r.end
  span_of_fault (Fault.AfterDebug p) = span_across t f (past_at t p) (past_at t p)
  span_of_fault (Fault.Underscore r) = span_between t f r.start r.end
  span_of_fault (Fault.TooLarge r) = span_across t f r.start r.end
  span_of_fault (Fault.DebugFirst p r) = span_across t f p p
  span_of_fault (Fault.NoColon p) = span_across t f p p
  span_of_fault (Fault.Equals p brace) = span_across t f p p
  span_of_fault (Fault.Misplaced p) = span_across t f p p
  span_of_fault (Fault.PlusFirst p) = span_across t f p p
  span_of_fault (Fault.Field a b) = span_between t f a b
  span_of_fault (Fault.TupleIndex a b) = span_between t f a b
  span_of_fault (Fault.Comma p brace) = span_across t f p p

  -- "the suggestion's span (4, 5, 9)": `r#`; the `?` and the sign after it; the `?`
  abbrev pub suggestion_of : Fault → Option Span
  suggestion_of Fault.Clean = None
  suggestion_of (Fault.Unmatched p) = None
  suggestion_of (Fault.Expected p why) = None
  suggestion_of (Fault.Unclosed why) = None
  suggestion_of (Fault.RawName r) = Some (span_across t f r.start (past_at t r.start))
  suggestion_of (Fault.AfterDebug p) = Some (span_across t f p (past_at t p))
  suggestion_of (Fault.Underscore r) = None
  suggestion_of (Fault.TooLarge r) = None
  suggestion_of (Fault.DebugFirst p r) = None
  suggestion_of (Fault.NoColon p) = span_at t f p
  suggestion_of (Fault.Equals p brace) = None
  suggestion_of (Fault.Misplaced p) = None
  suggestion_of (Fault.PlusFirst p) = None
  suggestion_of (Fault.Field a b) = None
  suggestion_of (Fault.TupleIndex a b) = None
  suggestion_of (Fault.Comma p brace) = None

  -- "a second span (2 and 3: the fill if it is `}`, else the last opening brace; 10 and 15: that brace)"
  abbrev pub second_of : Fault → Option Span
  second_of Fault.Clean = None
  second_of (Fault.Unmatched p) = None
  second_of (Fault.Expected p why) = span_at t f why
  second_of (Fault.Unclosed why) = span_at t f why
  second_of (Fault.RawName r) = None
  second_of (Fault.AfterDebug p) = None
  second_of (Fault.Underscore r) = None
  second_of (Fault.TooLarge r) = None
  second_of (Fault.DebugFirst p r) = None
  second_of (Fault.NoColon p) = None
  second_of (Fault.Equals p brace) = span_at t f brace
  second_of (Fault.Misplaced p) = None
  second_of (Fault.PlusFirst p) = None
  second_of (Fault.Field a b) = None
  second_of (Fault.TupleIndex a b) = None
  second_of (Fault.Comma p brace) = span_at t f brace

-- "what is quoted (2, 5, 11 the character; 7 the digits; 8 the word, as byte ranges)"
abbrev pub quoted_of : List ℕ → Fault → Option TextRange
quoted_of t Fault.Clean = None
quoted_of t (Fault.Unmatched p) = None
quoted_of t (Fault.Expected p why) = character_at t p
quoted_of t (Fault.Unclosed why) = None
quoted_of t (Fault.RawName r) = None
quoted_of t (Fault.AfterDebug p) = character_at t (past_at t p)
quoted_of t (Fault.Underscore r) = None
quoted_of t (Fault.TooLarge r) = Some r
quoted_of t (Fault.DebugFirst p r) = Some r
quoted_of t (Fault.NoColon p) = None
quoted_of t (Fault.Equals p brace) = None
quoted_of t (Fault.Misplaced p) = character_at t p
quoted_of t (Fault.PlusFirst p) = None
quoted_of t (Fault.Field a b) = None
quoted_of t (Fault.TupleIndex a b) = None
quoted_of t (Fault.Comma p brace) = None

-- a fault's record is these five, and the number of pieces already listed
pub record_parts : (t : List ℕ) (f : Frame) (n : ℕ) (x : Fault) →
    record_of t f n x ≡ error_of (kind_of x) (span_of_fault t f x) (second_of t f x) (quoted_of t x) (suggestion_of t f x) n
unfolding record_of
record_parts t f n Fault.Clean = refl
record_parts t f n (Fault.Unmatched p) = refl
record_parts t f n (Fault.Expected p why) = refl
record_parts t f n (Fault.Unclosed why) = refl
record_parts t f n (Fault.RawName r) = refl
record_parts t f n (Fault.AfterDebug p) = refl
record_parts t f n (Fault.Underscore r) = refl
record_parts t f n (Fault.TooLarge r) = refl
record_parts t f n (Fault.DebugFirst p r) = refl
record_parts t f n (Fault.NoColon p) = refl
record_parts t f n (Fault.Equals p brace) = refl
record_parts t f n (Fault.Misplaced p) = refl
record_parts t f n (Fault.PlusFirst p) = refl
record_parts t f n (Fault.Field a b) = refl
record_parts t f n (Fault.TupleIndex a b) = refl
record_parts t f n (Fault.Comma p brace) = refl
