-- The error record of a fault, one clause a kind: "Each record has the kind, its span, a second span (..), what is quoted (..)", the
-- suggestion's span, and the number of pieces already listed; where a span or a quote is not named there is none.
use Rattle.std.specs.Prelude.{ℕ, Bool, true, false, List, Option, Some, None}
use Rattle.frame.specs.Places.{range_of, span_of}
use Rattle.frame.specs.Spans.{span_between}
use Rattle.frame.specs.declared.TextPlace.{TextPlace}
use Rattle.frame.specs.declared.Span.{Span}
use Rattle.frame.specs.declared.Frame.{Frame}
use Rattle.scan.specs.Characters.{past_at}
use Rattle.scan.specs.Ends.{span_across}
use Rattle.reading.specs.declared.Fault.{Fault}
use Rattle.reading.specs.declared.ErrorRecord.{ErrorRecord}
use Rattle.frame.specs.declared.TextRange.{TextRange}

-- added at the back: kinds 1, 2, 3, 6, 7; put at the front: 4, 5, 8 to 15 (R7.2)
abbrev pub is_front : Fault → Bool
is_front Fault.Clean = false
is_front (Fault.Unmatched p) = false
is_front (Fault.Expected p why) = false
is_front (Fault.Unclosed why) = false
is_front (Fault.RawName r) = true
is_front (Fault.AfterDebug p) = true
is_front (Fault.Underscore r) = false
is_front (Fault.TooLarge r) = false
is_front (Fault.DebugFirst p r) = true
is_front (Fault.NoColon p) = true
is_front (Fault.Equals p brace) = true
is_front (Fault.Misplaced p) = true
is_front (Fault.PlusFirst p) = true
is_front (Fault.Field a b) = true
is_front (Fault.TupleIndex a b) = true
is_front (Fault.Comma p brace) = true

-- kind, span, second span, what is quoted, suggestion, and the number of pieces already listed
abbrev pub error_of : ℕ → Span → Option Span → Option TextRange → Option Span → ℕ → ErrorRecord
error_of kind span second quoted suggestion piece =
    record {
      kind = kind;
      span = span;
      second = second;
      quoted = quoted;
      suggestion = suggestion;
      piece = piece;
    }

-- a record of a kind, a span and that number alone
abbrev pub bare_error : ℕ → Span → ℕ → ErrorRecord
bare_error kind span piece = error_of kind span None None None piece

-- the bytes of the character at a place
abbrev pub character_at : List ℕ → TextPlace → Option TextRange
character_at t p = Some (range_of p (past_at t p))

module _ (t : List ℕ) (f : Frame) where
  -- the span of the character at a place
  abbrev pub span_at : TextPlace → Option Span
  span_at p = Some (span_across t f p p)

  -- A FAULT'S RECORD, where so many pieces were listed; nothing wrong has kind 0, and is in no list (R7.1, R7.9, K1 to K15)
  unfoldable pub record_of : ℕ → Fault → ErrorRecord
  record_of n Fault.Clean = bare_error 0 (span_of f.end f.end) n
  -- the brace
  record_of n (Fault.Unmatched p) = bare_error 1 (span_across t f p p) n
  -- empty, before the character found, which is quoted; why
  record_of n (Fault.Expected p why) = error_of 2 (span_between t f p p) (span_at why) (character_at t p) None n
  -- empty, at "end"; why
  record_of n (Fault.Unclosed why) = error_of 3 (span_of f.end f.end) (span_at why) None None n
  -- the name with its prefix; `r#` is suggested to go
  record_of n (Fault.RawName r) =
      error_of 4 (span_between t f r.start r.end) None None
      (Some (span_across t f r.start (past_at t r.start))) n
  -- the sign after the `?`, which is quoted; both are suggested to change places
  record_of n (Fault.AfterDebug p) =
      error_of 5 (span_across t f (past_at t p) (past_at t p)) None (character_at t (past_at t p))
      (Some (span_across t f p (past_at t p))) n
  -- the word
  record_of n (Fault.Underscore r) = bare_error 6 (span_between t f r.start r.end) n
  -- the digits, which are quoted, with the next character taken in
  record_of n (Fault.TooLarge r) = error_of 7 (span_across t f r.start r.end) None (Some r) None n
  -- the `?`; the word after `?:` is quoted
  record_of n (Fault.DebugFirst p r) = error_of 8 (span_across t f p p) None (Some r) None n
  -- the `?`, before which a `:` is suggested
  record_of n (Fault.NoColon p) = error_of 9 (span_across t f p p) None None (span_at p) n
  -- the `=`; the opening brace
  record_of n (Fault.Equals p brace) = error_of 10 (span_across t f p p) (span_at brace) None None n
  -- the align, which is quoted
  record_of n (Fault.Misplaced p) = error_of 11 (span_across t f p p) None (character_at t p) None n
  -- the `+`
  record_of n (Fault.PlusFirst p) = bare_error 12 (span_across t f p p) n
  -- from the place to the field's end
  record_of n (Fault.Field a b) = bare_error 13 (span_between t f a b) n
  record_of n (Fault.TupleIndex a b) = bare_error 14 (span_between t f a b) n
  -- the `,`; the opening brace
  record_of n (Fault.Comma p brace) = error_of 15 (span_across t f p p) (span_at brace) None None n
