-- What each part tells: where it is told, the part's definition in `scan` or `placeholder` is this record. Rests on Tellings.
use Rattle.std.specs.Prelude.{ℕ, ◌+◌, ◌≤◌, ◌<◌, ◌≡◌, Bool, true, false, List, eqb, leb, ltb, length, get_or, Option, None, Some}
use Rattle.utf8.specs.Choice.{pick, both}
use Rattle.utf8.specs.Chars.{chars_of, run_end}
use Rattle.letters.specs.Ascii.{ascii_continue}
use Rattle.letters.specs.Questions.{is_space, is_continue}
use Rattle.frame.specs.Places.{place, range_of}
use Rattle.frame.specs.declared.Frame.{Frame}
use Rattle.scan.specs.Words.{number_read, word_end}
use Rattle.scan.specs.Counts.{count_read}
use Rattle.scan.specs.declared.Flaw.{Flaw}
use Rattle.scan.specs.declared.Numeral.{Numeral}
use Rattle.placeholder.specs.Places.{placed, place_read}
use Rattle.placeholder.specs.Parts.{is_implied, fill_read, precision_read}
use Rattle.placeholder.specs.Types.{type_read}
use Rattle.placeholder.specs.Format.{format_read}
use Rattle.placeholder.specs.declared.Hex.{Hex}
use Rattle.placeholder.specs.declared.format.SpecRead.{SpecRead}
use Rattle.quick.specs.declared.NumberPart.{NumberPart}
use Rattle.quick.specs.declared.PlaceKind.{PlaceKind}
use Rattle.quick.specs.declared.PlacePart.{PlacePart}
use Rattle.quick.specs.declared.CountKind.{CountKind}
use Rattle.quick.specs.declared.CountPart.{CountPart}
use Rattle.quick.specs.declared.WordTold.{WordTold}
use Rattle.quick.specs.declared.TypeTold.{TypeTold}
use Rattle.quick.specs.declared.SignHint.{SignHint}
use Rattle.quick.specs.declared.SpecTold.{SpecTold}
use Rattle.quick.specs.Tellings.{found_of, width_of, precision_of, is_nothing, is_star, count_span, back_of, fill_of, type_span, after_star, spec_of, blank_flaw}

-- a place within a text of at most refusal 3's limit
pub record Room (t : List ℕ) (at : ℕ) : Type 0 where
  pub within : at ≤ length t
  pub small : length t ≤ 65535

-- a place and a count that are a number
abbrev pub number_place : NumberPart → PlacePart
number_place p = record { kind = PlaceKind.Number p.value; end = p.end; blank = false }

abbrev pub fixed_count : NumberPart → CountPart
fixed_count p = record { kind = CountKind.Number p.value; end = p.end; blank = false }

-- no place and no count, where reading stood
abbrev pub place_none : ℕ → PlacePart
place_none at = record { kind = PlaceKind.Nothing; end = at; blank = false }

abbrev pub count_none : ℕ → CountPart
count_none at = record { kind = CountKind.Nothing; end = at; blank = false }

-- a byte that is an align
unfoldable pub align_byte : ℕ → Bool
align_byte b = pick (eqb b 0x3C) true (pick (eqb b 0x3E) true (eqb b 0x5E))

-- a byte that is a sign of a type: `?`, `x` or `X`
unfoldable pub sign_byte : ℕ → Bool
sign_byte b = pick (eqb b 0x3F) true (pick (eqb b 0x78) true (eqb b 0x58))

-- a byte after which a spec is at its end: a `}` or a space
unfoldable pub ends_byte : ℕ → Bool
ends_byte b = pick (eqb b 0x7D) true (eqb b 0x20)

-- a word with a first byte, between two bytes of the text, is `_`
unfoldable pub blank_word : ℕ → ℕ → ℕ → Bool
blank_word b at end = both (eqb b 0x5F) (eqb end (at + 1))

-- a word with a first byte, between two bytes of the text, is `r` with a `#` after it, as a raw name begins
unfoldable pub raw_word : List ℕ → ℕ → ℕ → ℕ → Bool
raw_word t b at end = both (eqb b 0x72) (both (eqb end (at + 1)) (eqb (get_or t end 0) 0x23))

-- a type that is a sign
abbrev pub sign_of : ℕ → TypeTold
sign_of at = record { hex = Hex.Absent; word = false; blank = false; from = at; end = at + 1 }

-- which is told where a spec is at its end after it
unfoldable pub sign_told : List ℕ → ℕ → Option TypeTold
sign_told t at = pick (ends_byte (get_or t (at + 1) 0)) (Some (sign_of at)) None

-- one that is a word with a first byte, between two bytes; none where they are the same
abbrev pub type_word : ℕ → ℕ → ℕ → TypeTold
type_word b at end = record { hex = Hex.Absent; word = ltb at end; blank = blank_word b at end; from = at; end = end }

-- no type
abbrev pub type_none : ℕ → TypeTold
type_none at = record { hex = Hex.Absent; word = false; blank = false; from = at; end = at }

-- what is said of the sign at a byte, if two characters remain
unfoldable pub hint_of : List ℕ → ℕ → SignHint
hint_of t at =
    let b = get_or t at 0 in
    pick (leb (length t) (at + 1)) SignHint.Silent
    (pick (align_byte b) SignHint.Misplaced
    (pick (eqb b 0x2C) SignHint.Comma
    (pick (eqb b 0x2B) SignHint.Plus
    (pick (both (eqb b 0x3D) (eqb (get_or t (at + 1) 0) 0x7D)) SignHint.Equals SignHint.Silent))))

-- where reading goes on after a closing brace, or after a sign
abbrev pub past_hint : SignHint → ℕ → ℕ
past_hint SignHint.Silent at = at
past_hint SignHint.Misplaced at = at + 1
past_hint SignHint.Comma at = at + 1
past_hint SignHint.Plus at = at + 1
past_hint SignHint.Equals at = at + 1

unfoldable pub onward_of : Bool → SignHint → ℕ → ℕ
onward_of closed hint at = pick closed (at + 1) (past_hint hint at)

-- a run of continuations in ASCII, from a byte to another: the run goes on at the second only with a letter that is not ASCII
pub record AsciiRun (t : List ℕ) (at to : ℕ) : Type 0 where
  pub run : run_end is_continue t to ≡ run_end is_continue t at
  pub ends : to < length t → ascii_continue (get_or t to 0) ≡ false
  pub on : at ≤ to
  pub chars : (e : ℕ) → to ≤ e → to + length (chars_of t to e) ≡ at + length (chars_of t at e)

-- a word: one that is known to be ASCII has as many characters as bytes
pub record WordKnown (t : List ℕ) (at : ℕ) (w : WordTold) : Type 0 where
  pub ends : w.end ≡ (word_end t (place at)).0
  pub on : at ≤ w.end
  pub chars : w.ascii ≡ true → at + length (chars_of t at w.end) ≡ w.end

-- the number that starts at a byte, within the range
pub record NumberTold (t : List ℕ) (at : ℕ) (p : NumberPart) : Type 0 where
  pub read :
      number_read t (place at) ≡ record {
        number = Some (Numeral.Within p.value);
        digits = range_of (place at) (place p.end);
        flaw = Flaw.Clean;
      }
  pub inside : p.end ≤ length t

-- the place of an argument
pub record PlaceTold (t : List ℕ) (at : ℕ) (p : PlacePart) : Type 0 where
  pub read : place_read t (place at) ≡ placed (found_of at p) (place p.end) (blank_flaw p.blank at p.end) Flaw.Clean
  pub inside : p.end ≤ length t

-- a fill, which ends at a byte
pub record FillTold (t : List ℕ) (at past : ℕ) : Type 0 where
  pub read : (f : Frame) → fill_read t f (place at) ≡ record { fill = fill_of t f at past; at = place past }
  pub inside : past ≤ length t

-- a count that is there, without a name
pub record CountGiven (t : List ℕ) (at : ℕ) (p : CountPart) : Type 0 where
  pub some : is_nothing p.kind ≡ false
  pub starless : is_star p.kind ≡ false
  pub dotless : p.kind ≡ CountKind.Dot → ⊥
  pub read : (f : Frame) (n : ℕ) →
      count_read t f (place at) ≡ record { count = width_of t f n at p; at = place p.end; flaw = Flaw.Clean; given = 0 }
  pub spanned : (f : Frame) (n : ℕ) → is_implied (width_of t f n at p) ≡ false
  pub whole : p.blank ≡ false
  pub inside : p.end ≤ length t

-- a width, where a word ends at a byte
pub record WidthTold (t : List ℕ) (at word : ℕ) (p : CountPart) : Type 0 where
  pub starless : is_star p.kind ≡ false
  pub dotless : p.kind ≡ CountKind.Dot → ⊥
  pub read : (f : Frame) (n : ℕ) →
      count_read t f (place at) ≡ record { count = width_of t f n at p; at = place p.end; flaw = blank_flaw p.blank at word; given = back_of t at word p }
  pub spanned : (f : Frame) (n : ℕ) → is_implied (width_of t f n at p) ≡ is_nothing p.kind
  pub inside : p.end ≤ length t

-- a precision with its dot, or none, and how many characters behind the dot were given back
pub record PrecisionTold (t : List ℕ) (at given : ℕ) (p : CountPart) : Type 0 where
  pub read : (f : Frame) (n : ℕ) →
      precision_read t f (place at) n ≡ record {
        precision = precision_of t f n at p;
        span = count_span t f at p;
        at = place p.end;
        next = after_star n p;
        flaw = Flaw.Clean;
        given = given;
      }
  pub inside : p.end ≤ length t
  pub few : given ≤ length t

-- a type
pub record TypeKnown (t : List ℕ) (at : ℕ) (k : TypeTold) : Type 0 where
  pub read : (f : Frame) →
      type_read t f (place at) ≡ record {
        hex = k.hex;
        typetext = range_of (place k.from) (place k.end);
        span = type_span t f k;
        at = place k.end;
        flaw = blank_flaw k.blank at k.end;
      }
  pub inside : k.end ≤ length t

-- a `0` before a `$` is no flag
abbrev pub FlagTold : List ℕ → Bool → ℕ → Type 0
FlagTold t zero from = zero ≡ true → get_or t from 0 ≡ 0x24 → ⊥

-- a spec that is told, as `placeholder` reads it
abbrev pub spec_found : List ℕ → Frame → ℕ → ℕ → SpecTold → SpecRead
spec_found t f at n s =
    record {
      spec = spec_of t f at n s;
      at = place s.typed.end;
      next = after_star n s.precision;
      width = blank_flaw s.width.blank s.from s.word;
      precision = Flaw.Clean;
      typetext = blank_flaw s.typed.blank s.precision.end s.typed.end;
      given = s.given;
    }

-- the spec after a colon
pub record SpecKnown (t : List ℕ) (at : ℕ) (s : SpecTold) : Type 0 where
  pub read : (f : Frame) (n : ℕ) → format_read t f (place at) n ≡ spec_found t f at n s
  pub wide : s.width.kind ≡ CountKind.Dot → ⊥
  pub counted : s.width.end ≤ length t
  pub inside : s.typed.end ≤ length t

-- no spec, where reading stood
pub record NoSpec (at : ℕ) (s : SpecTold) : Type 0 where
  pub wide : s.width ≡ count_none at
  pub precise : s.precision ≡ count_none at
  pub typed : s.typed.blank ≡ false
  pub ends : s.typed.end ≡ at
  pub given : s.given ≡ 0

-- either, as a colon stands at a byte or not
pub record SpecEither (t : List ℕ) (to : ℕ) (colon : Bool) (s : SpecTold) : Type 0 where
  pub known : colon ≡ true → SpecKnown t (to + 1) s
  pub none : colon ≡ false → NoSpec to s

-- a byte that begins nothing more where a placeholder ends
pub record LeftTold (b : ℕ) : Type 0 where
  pub question : b ≡ 0x3F → ⊥
  pub dot : b ≡ 0x2E → ⊥

-- a placeholder whose place ends, with the whitespace after it, at a byte
pub record PlaceEnds (t : List ℕ) (at : ℕ) (p : PlacePart) (to : ℕ) : Type 0 where
  pub placed : PlaceTold t at p
  pub ends : to ≡ run_end is_space t p.end
