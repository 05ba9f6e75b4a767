-- What is told of a placeholder, in the records that `closing` reads.
use Rattle.std.specs.Prelude.{ℕ, ◌+◌, ◌-◌, ◌≤◌, ◌≡◌, Bool, true, false, not, List, eqb, length, Option, Some, None}
use Rattle.utf8.specs.Choice.{pick}
use Rattle.utf8.specs.Chars.{chars_of}
use Rattle.utf8.specs.Utf8.{peek_at}
use Rattle.frame.specs.Places.{place, range_of}
use Rattle.frame.specs.Spans.{span_between}
use Rattle.frame.specs.declared.Frame.{Frame}
use Rattle.frame.specs.declared.TextPlace.{TextPlace}
use Rattle.scan.specs.Ends.{span_across}
use Rattle.scan.specs.declared.Count.{Count}
use Rattle.scan.specs.declared.Flaw.{Flaw}
use Rattle.scan.specs.declared.Numeral.{Numeral}
use Rattle.placeholder.specs.Arguments.{resolved}
use Rattle.closing.specs.Recovery.{because, gap_at, passed_to, text_taken}
use Rattle.placeholder.specs.Filling.{filling}
use Rattle.placeholder.specs.Specs.{no_spec}
use Rattle.closing.specs.Wholes.{placeholder_read}
use Rattle.placeholder.specs.declared.Argument.{Argument}
use Rattle.placeholder.specs.declared.ArgumentFlaws.{ArgumentFlaws}
use Rattle.placeholder.specs.declared.Fill.{Fill}
use Rattle.frame.specs.declared.Mode.{Mode}
use Rattle.placeholder.specs.declared.Spec.{Spec}
use Rattle.placeholder.specs.declared.position.Found.{Found}
use Rattle.closing.specs.declared.recover.Hint.{Hint}
use Rattle.closing.specs.declared.whole.Closing.{Closing}
use Rattle.closing.specs.declared.whole.PlaceholderRead.{PlaceholderRead}
use Rattle.quick.specs.declared.PlaceKind.{PlaceKind}
use Rattle.quick.specs.declared.PlacePart.{PlacePart}
use Rattle.quick.specs.declared.CountKind.{CountKind}
use Rattle.quick.specs.declared.CountPart.{CountPart}
use Rattle.quick.specs.declared.TypeTold.{TypeTold}
use Rattle.quick.specs.declared.SignHint.{SignHint}
use Rattle.quick.specs.declared.SpecTold.{SpecTold}
use Rattle.quick.specs.declared.PlaceholderTold.{PlaceholderTold}
use Rattle.frame.specs.declared.Span.{Span}
use Rattle.utf8.specs.declared.Char.{Char}

-- a place that starts at a byte and ends at another
abbrev pub place_found : ℕ → ℕ → PlaceKind → Found
place_found at end PlaceKind.Nothing = Found.Nothing
place_found at end (PlaceKind.Number value) = Found.Number (Numeral.Within value)
place_found at end PlaceKind.Word = Found.Word (range_of (place at) (place end))

unfoldable pub found_of : ℕ → PlacePart → Found
found_of at p = place_found at p.end p.kind

-- a count that is a name from a byte on: its word, whose `$` ends at another
abbrev pub name_of : List ℕ → Frame → ℕ → ℕ → Count
name_of t f from end = Count.ByName (range_of (place from) (place (end - 1))) (span_between t f (place from) (place (end - 1)))

-- a count that starts at a byte and ends at another, with the next argument's number
abbrev pub count_found : List ℕ → Frame → ℕ → ℕ → ℕ → CountKind → Count
count_found t f n from end CountKind.Nothing = Count.Implied
count_found t f n from end (CountKind.Number value) = Count.Fixed (Numeral.Within value)
count_found t f n from end (CountKind.Argument value) = Count.ByArgument (Numeral.Within value)
count_found t f n from end CountKind.Star = Count.ByStar n
count_found t f n from end CountKind.Name = name_of t f from end
count_found t f n from end CountKind.Dot = Count.Implied

-- a width that starts at a byte
unfoldable pub width_of : List ℕ → Frame → ℕ → ℕ → CountPart → Count
width_of t f n from p = count_found t f n from p.end p.kind

-- a precision whose dot stands at a byte: behind it what a width may be, or a star, or no count
unfoldable pub precision_of : List ℕ → Frame → ℕ → ℕ → CountPart → Count
precision_of t f n dot p = width_of t f n (dot + 1) p

-- no count stands there, and no dot; a star does
abbrev pub is_nothing : CountKind → Bool
is_nothing CountKind.Nothing = true
is_nothing _ = false

abbrev pub is_star : CountKind → Bool
is_star CountKind.Star = true
is_star _ = false

-- the span of a count that starts at a byte
unfoldable pub count_span : List ℕ → Frame → ℕ → CountPart → Option Span
count_span t f from p = pick (is_nothing p.kind) None (Some (span_between t f (place from) (place p.end)))

-- how many characters of the word between two bytes are given back where a count was looked for: all of them where it is none
unfoldable pub back_of : List ℕ → ℕ → ℕ → CountPart → ℕ
back_of t from word p = pick (is_nothing p.kind) (length (chars_of t from word)) 0

-- the code of a character; 0 at the end
abbrev pub code_seen : Option Char → ℕ
code_seen None = 0
code_seen (Some seen) = seen.code

-- the fill that starts at a byte and ends at another; none where they are the same
unfoldable pub fill_of : List ℕ → Frame → ℕ → ℕ → Option Fill
fill_of t f at past =
    pick (eqb at past) None (filling (code_seen (peek_at t at)) (span_across t f (place at) (place at)))

-- a type's span: a word has one
unfoldable pub type_span : List ℕ → Frame → TypeTold → Option Span
type_span t f k = pick k.word (Some (span_between t f (place k.from) (place k.end))) None

-- the next argument's number after a star, and after a place that is not written
unfoldable pub after_star : ℕ → CountPart → ℕ
after_star n p = pick (is_star p.kind) (n + 1) n

-- the spec that starts at a byte, after its colon
unfoldable pub spec_of : List ℕ → Frame → ℕ → ℕ → SpecTold → Spec
spec_of t f at n s =
    record {
      fill = fill_of t f at s.fill;
      align = s.align;
      sign = s.sign;
      alternate = s.alternate;
      zero = s.zero;
      hex = s.typed.hex;
      width = width_of t f n s.from s.width;
      widthspan = count_span t f s.from s.width;
      precision = precision_of t f n s.width.end s.precision;
      precisionspan = count_span t f s.width.end s.precision;
      typetext = range_of (place s.typed.from) (place s.typed.end);
      typespan = type_span t f s.typed;
    }

-- the argument whose opening brace stands at a byte
unfoldable pub argument_of : List ℕ → Frame → ℕ → ℕ → PlaceholderTold → Argument
argument_of t f brace n x =
    record {
      place = (resolved (found_of (brace + 1) x.place) (after_star n x.spec.precision)).place;
      placespan = span_between t f (place (brace + 1)) (place x.to);
      spec = pick x.colon (spec_of t f (x.to + 1) n x.spec) (no_spec (place x.to) n).spec;
      range = range_of (place brace) (place x.on);
    }

-- the next argument's number after a placeholder: a star's and a place's that is not written are taken
unfoldable pub next_of : ℕ → PlaceholderTold → ℕ
next_of n x = (resolved (found_of 0 x.place) (after_star n x.spec.precision)).next

-- the word `_`, where it stands between two bytes, is a flaw
unfoldable pub blank_flaw : Bool → ℕ → ℕ → Flaw
blank_flaw blank from to = pick blank (Flaw.Underscore (range_of (place from) (place to))) Flaw.Clean

-- what is wrong in the parts of the argument whose place starts at a byte
unfoldable pub blanks_of : ℕ → PlaceholderTold → ArgumentFlaws
blanks_of at x =
    record {
      place = blank_flaw x.place.blank at x.place.end;
      raw = Flaw.Clean;
      width = blank_flaw x.spec.width.blank x.spec.from x.spec.word;
      precision = Flaw.Clean;
      typetext = blank_flaw x.spec.typed.blank x.spec.precision.end x.spec.typed.end;
    }

-- what is said of the sign at a place
abbrev pub placed_hint : SignHint → TextPlace → Hint
placed_hint SignHint.Silent at = Hint.Silent
placed_hint SignHint.Misplaced at = Hint.Misplaced at
placed_hint SignHint.Comma at = Hint.Comma at
placed_hint SignHint.Plus at = Hint.PlusFirst at
placed_hint SignHint.Equals at = Hint.Equals at

-- how it ends: at its closing brace, or without one and with no word and no field read
unfoldable pub closing_of : List ℕ → Frame → ℕ → ℕ → PlaceholderTold → Closing
closing_of t f brace n x =
    let why = because (argument_of t f brace n x).spec.fill (place (x.to + 1)) (place brace) in
    pick x.closed (Closing.Closed (place x.close))
    (Closing.Missing
    (gap_at t (place x.close) why)
    (passed_to (place x.on) (next_of n x) (placed_hint x.hint (place x.close))))

-- the placeholder
unfoldable pub told_read : List ℕ → Frame → ℕ → ℕ → PlaceholderTold → PlaceholderRead
told_read t f brace n x =
    record {
      argument = argument_of t f brace n x;
      text = text_taken Mode.Format (argument_of t f brace n x).spec.typetext;
      flaws = blanks_of (brace + 1) x;
      closing = closing_of t f brace n x;
      at = place x.on;
      next = next_of n x;
      given = x.spec.given;
    }

-- a mode in which what is told holds, with a colon or without: a spec is told as Format mode reads it, and without one each mode reads alike
abbrev pub in_mode : Mode → Bool → Bool
in_mode Mode.Format colon = true
in_mode Mode.InlineAsm colon = not colon
in_mode Mode.Diagnostic colon = not colon

-- WHAT IS TOLD IS WHAT IS READ, for the placeholder whose place starts at a byte, in any frame and with any number of the next argument
pub record Tells (t : List ℕ) (at : ℕ) (x : PlaceholderTold) : Type 0 where
  pub read : (m : Mode) → in_mode m x.colon ≡ true → (f : Frame) (brace n : ℕ) → at ≡ brace + 1 →
      placeholder_read t f m (place brace) (place at) n ≡ told_read t f brace n x
  pub wide : x.spec.width.kind ≡ CountKind.Dot → ⊥
  pub counted : x.spec.width.end ≤ length t
  pub reached : x.to ≤ length t
  pub closed : x.close ≤ length t
  pub on : x.on ≤ length t

-- NOTHING IS WRONG in what is told
pub record Flawless (x : PlaceholderTold) : Type 0 where
  pub closed : x.closed ≡ true
  pub placed : x.place.blank ≡ false
  pub wide : x.spec.width.blank ≡ false
  pub typed : x.spec.typed.blank ≡ false
