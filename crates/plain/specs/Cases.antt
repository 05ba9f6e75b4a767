-- Worked plain forms: texts of each mode, what some of them say and how each is written, held to the reader's definitions by computing.
-- Rests on Plain and on the reader's definitions, on no law.
use Rattle.std.specs.Prelude.{◌≡◌, refl, true, false, List, [], ◌∷◌, ◌++◌, map, ℕ, None}
use Rattle.utf8.specs.Choice.{pick, within}
use Rattle.utf8.specs.Encode.{encode}
use Rattle.utf8.specs.Utf8.{low, high, sequence_of, char_of, sequence_at, decode, peek_at}
use Rattle.utf8.specs.Chars.{chars_at, chars_from, take_while, bytes, run_end}
use Rattle.letters.specs.Table.{member}
use Rattle.letters.specs.Start.{start}
use Rattle.letters.specs.Continue.{continue}
use Rattle.letters.specs.Space.{space}
use Rattle.letters.specs.Questions.{is_space, is_start, is_continue}
use Rattle.frame.specs.Frames.{frame_of, body, is_literal, end_of}
use Rattle.frame.specs.Spans.{to_snippet, start_of, span_between}
use Rattle.frame.specs.declared.Mode.{Mode}
use Rattle.scan.specs.Characters.{is_at, past_at, consumed, spaces_past, is_plain, text_end}
use Rattle.scan.specs.Ends as ends
use Rattle.scan.specs.Words.{word_end, is_underscore, word_read, is_digit, decimal, numeral, digits_at, number_from, number_read}
use Rattle.scan.specs.Counts.{is_empty, number_count, name_count, count_read}
use Rattle.scan.specs.declared.Numeral.{Numeral}
use Rattle.placeholder.specs.Places.{is_r, raw_place, word_place, place_read}
use Rattle.placeholder.specs.Parts.{is_align, fill_read, align_read, sign_read, plain_width, width_read, after_dot, precision_read}
use Rattle.placeholder.specs.Types.{hex_type, is_hex_or_hash, debug_type, word_type, type_read}
use Rattle.placeholder.specs.Format.{format_read}
use Rattle.placeholder.specs.Specs.{diagnostic_type, spec_read}
use Rattle.placeholder.specs.Arguments.{argument_read}
use Rattle.placeholder.specs.declared.Align.{Align}
use Rattle.placeholder.specs.declared.Hex.{Hex}
use Rattle.placeholder.specs.declared.Sign.{Sign}
use Rattle.closing.specs.Defaults.{no_marks, no_counts, is_default, is_identifier}
use Rattle.closing.specs.Recovery.{gap_at, field_read, recover_read}
use Rattle.closing.specs.Wholes.{missing_read, placeholder_read}
use Rattle.reading.specs.Steps.{after_open, after_close, step_at, steps_from, reading}
use Rattle.reading.specs.Faults.{argument_slots, missing_slots, closing_slots, step_slots, wrong, faults_of, marked}
use Rattle.reading.specs.Records.{record_of}
use Rattle.reading.specs.Lists.{gather, pieces, front_only, back_only, reversed, listed, records, findings, found, errors}
use Rattle.reading.specs.Cases.{bytes_of}
use Rattle.reading.specs.declared.ErrorRecord.{ErrorRecord}
use Rattle.pen.specs.Pens.{digits}
use Rattle.plain.specs.Said.{next, at, named, unfilled, filled, SaidCount, implied, fixed, by_argument, by_star, by_name, SaidSpec, SaidPiece, literal, argument, said}
use Rattle.plain.specs.Plain.{plain_spec, plain_form}

-- a text of a mode, and its plain form
pub record Case : Type 0 where
  pub mode : Mode
  pub text : List ℕ
  pub plain : List ℕ

-- what the reader's definitions say of a text, with no style
abbrev said_in : Mode → List ℕ → List SaidPiece
said_in m t = said t (pieces t (frame_of t None false [] false) m)

abbrev errors_in : Mode → List ℕ → List ErrorRecord
errors_in m t = errors t (frame_of t None false [] false) m

-- in Format mode: one text and another, its plain form; and a text that is its own
abbrev becomes : List ℕ → List ℕ → Case
becomes t u = record { mode = Mode.Format; text = t; plain = u }

abbrev stays : List ℕ → Case
stays t = becomes t t

abbrev pub formats : List Case
formats =
    -- "Mind `{: }<`, which must become `{}<`": a colon before `}<` would make the brace a fill
    becomes (bytes_of "{: }<") (bytes_of "{}<") ∷
    -- the flag and a width of 0; the flag alone; by argument 0, without the flag and with it
    becomes (bytes_of "{:000}") (bytes_of "{:00}") ∷
    stays (bytes_of "{:00}") ∷
    stays (bytes_of "{:0}") ∷
    stays (bytes_of "{:0$}") ∷
    becomes (bytes_of "{:000$}") (bytes_of "{:00$}") ∷
    becomes (bytes_of "{:0007}") (bytes_of "{:07}") ∷
    -- a dot and no precision; a precision of 0; a star, and the place that follows it
    becomes (bytes_of "{:.}") (bytes_of "{}") ∷
    becomes (bytes_of "{:.00}") (bytes_of "{:.0}") ∷
    becomes (bytes_of "{ :.* }{:}") (bytes_of "{:.*}{}") ∷
    -- whitespace and a colon that are optional
    becomes (bytes_of "{ :}") (bytes_of "{}") ∷
    becomes (bytes_of "{ }a{b :x }") (bytes_of "{}a{b:x}") ∷
    -- a fill that is a space, a brace or a letter of two bytes
    becomes (bytes_of "{: > }") (bytes_of "{: >}") ∷
    stays (bytes_of "{:}<}") ∷
    stays (bytes_of "{:{^07}") ∷
    stays (bytes_of "{:" ++ (0xC3 ∷ 0xB8 ∷ []) ++ bytes_of ">5}") ∷
    -- places by number, of one digit to five
    becomes (bytes_of "{000}{007}{0010}{00205}{01000}{065535}") (bytes_of "{0}{7}{10}{205}{1000}{65535}") ∷
    -- names, signs, `#`, the types with a letter before the `?`, counts by name
    becomes (bytes_of "{n:^+#012.03$x? }") (bytes_of "{n:^+#012.3$x?}") ∷
    becomes (bytes_of "{:-w$.p$X? }{:x}{:?}{:e }") (bytes_of "{:-w$.p$X?}{:x}{:?}{:e}") ∷
    -- doubled braces, and the empty text
    stays (bytes_of "{{a}}b{{}}{{") ∷
    becomes (bytes_of "{{{:}}}") (bytes_of "{{{}}}") ∷
    stays [] ∷
    []

abbrev asm : List ℕ → List ℕ → Case
asm t u = record { mode = Mode.InlineAsm; text = t; plain = u }

-- "in Diagnostic mode it stays wherever the type's text takes it in": it starts behind the colon, and a second one is its own
abbrev notice : List ℕ → List ℕ → Case
notice t u = record { mode = Mode.Diagnostic; text = t; plain = u }

abbrev pub others : List Case
others =
    asm (bytes_of "{00 :x }{: }<") (bytes_of "{0:x}{}<") ∷
    notice (bytes_of "{:}{ : x }{00: }") (bytes_of "{}{: x }{0: }") ∷
    notice (bytes_of "{a ::}{b }{{c") (bytes_of "{a::}{b}{{c") ∷
    []

-- WHAT IS SAID: of `{{a{n: >+#05.p$x?}`, every part
abbrev pub told : List SaidPiece
told =
    literal (bytes_of "{a") ∷
    argument (named (bytes_of "n"))
    (record {
      fill = filled 0x20;
      align = Align.Right;
      sign = Sign.Plus;
      alternate = true;
      zero = true;
      hex = Hex.Lower;
      width = fixed (Numeral.Within 5);
      precision = by_name (bytes_of "p");
      typetext = bytes_of "?";
    }) ∷
    []

abbrev bare : SaidCount → SaidCount → SaidSpec
bare width precision =
    record {
      fill = unfilled;
      align = Align.Unknown;
      sign = Sign.Absent;
      alternate = false;
      zero = false;
      hex = Hex.Absent;
      width = width;
      precision = precision;
      typetext = [];
    }

-- and of `{:7$.*}{1}`: a star takes a number before its own place
abbrev pub counted : List SaidPiece
counted = argument (next 1) (bare (by_argument (Numeral.Within 7)) (by_star 0)) ∷ argument (at (Numeral.Within 1)) (bare implied implied) ∷ []

-- the plain form that the definitions give
abbrev formed : Case → List ℕ
formed c = plain_form (said_in c.mode c.text)

abbrev plains : List Case → List (List ℕ)
plains xs = map (λ c. c.plain) xs

-- By the reader's definitions:
pub reads :
    -- what is said,
    (said_in Mode.Format (bytes_of "{{a{n: >+#05.p$x?}") ≡ told) × (said_in Mode.Format (bytes_of "{:7$.*}{1}") ≡ counted) ×
    -- no error in any text of the tables, and the plain forms
    (map (λ c. errors_in c.mode c.text) formats ≡ map (λ c. []) formats) × (map formed formats ≡ plains formats) ×
    (map (λ c. errors_in c.mode c.text) others ≡ map (λ c. []) others) × (map formed others ≡ plains others)
unfolding
    digits plain_spec plain_form encode
    bytes_of pick within member start continue space is_space is_start is_continue low high sequence_of char_of sequence_at decode peek_at chars_at
    chars_from take_while bytes run_end frame_of body is_literal end_of to_snippet start_of span_between is_at past_at consumed spaces_past is_plain text_end
    ends.end_of ends.span_across word_end is_underscore word_read is_digit decimal numeral digits_at number_from number_read is_empty number_count name_count
    count_read is_r raw_place word_place place_read is_align fill_read align_read sign_read plain_width width_read after_dot precision_read hex_type
    is_hex_or_hash debug_type word_type type_read format_read diagnostic_type spec_read argument_read no_marks no_counts is_default is_identifier gap_at
    field_read recover_read missing_read placeholder_read after_open after_close step_at steps_from reading argument_slots
    missing_slots closing_slots step_slots wrong faults_of marked record_of gather pieces front_only back_only reversed listed records findings found errors
reads = (refl, refl, refl, refl, refl, refl)
