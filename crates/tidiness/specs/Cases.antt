-- Worked calls, each computed from the definitions: answers and outputs, every byte; the refusals in their order, and what they leave.
-- Rests on Tidies and on the reader's definitions, on no law.
use Rattle.std.specs.Prelude.{◌≡◌, refl, List, [], ◌∷◌, map, ℕ, ◌≤◌, ◌<◌, length}
use Prim.Native.String.{String}
use Rattle.std.proofs.Common.{lt-ltb, le-ltb}
use Rattle.utf8.specs.Choice.{pick, within}
use Rattle.utf8.specs.Encode.{encode}
use Rattle.utf8.specs.Utf8.{low, high, sequence_of, char_of, sequence_at, decode, peek_at, valid, valid_prefix}
use Rattle.utf8.specs.Chars.{chars_at, chars_from, take_while, bytes, run_end}
use Rattle.letters.specs.Table.{member}
use Rattle.letters.specs.Start.{start}
use Rattle.letters.specs.Continue.{continue}
use Rattle.letters.specs.Space.{space}
use Rattle.letters.specs.Questions.{is_space, is_start, is_continue}
use Rattle.frame.specs.Frames.{frame_of, body, is_literal, end_of}
use Rattle.frame.specs.Spans.{to_snippet, start_of, span_between}
use Rattle.scan.specs.Characters.{is_at, past_at, consumed, spaces_past, is_plain, text_end}
use Rattle.scan.specs.Ends as ends
use Rattle.scan.specs.Words.{word_end, is_underscore, word_read, is_digit, decimal, numeral, digits_at, number_from, number_read}
use Rattle.scan.specs.Counts.{is_empty, number_count, name_count, count_read}
use Rattle.placeholder.specs.Places.{is_r, raw_place, word_place, place_read}
use Rattle.placeholder.specs.Parts.{is_align, fill_read, align_read, sign_read, plain_width, width_read, after_dot, precision_read}
use Rattle.placeholder.specs.Types.{hex_type, is_hex_or_hash, debug_type, word_type, type_read}
use Rattle.placeholder.specs.Format.{format_read}
use Rattle.placeholder.specs.Specs.{diagnostic_type, spec_read}
use Rattle.placeholder.specs.Arguments.{argument_read}
use Rattle.closing.specs.Defaults.{no_marks, no_counts, is_default, is_identifier}
use Rattle.closing.specs.Recovery.{gap_at, field_read, recover_read}
use Rattle.closing.specs.Wholes.{missing_read, placeholder_read}
use Rattle.reading.specs.Steps.{after_open, after_close, step_at, steps_from, reading}
use Rattle.reading.specs.Faults.{argument_slots, missing_slots, closing_slots, step_slots, wrong, faults_of, marked}
use Rattle.reading.specs.Records.{record_of}
use Rattle.reading.specs.Lists.{gather, pieces, front_only, back_only, reversed, listed, records, findings, found, errors}
use Rattle.reading.specs.Wants.{larger, argument_wants, wants}
use Rattle.reading.specs.Answers.{is_long, is_broken, mode_of, first_of}
use Rattle.reading.specs.Cases.{bytes_of}
use Rattle.pen.specs.Pens.{over, digits}
use Rattle.plain.specs.Plain.{plain_spec, plain_form}
use Rattle.tidiness.specs.Tidies.{plain_text, wanted, is_faulty, refused_as, answer_by, tidied_of, output_of}
use Rattle.tidiness.specs.declared.Tidied.{Tidied}

-- a call: what it takes, its answer, and the output after it
pub record Call : Type 0 where
  pub text : List ℕ
  pub mode : ℕ
  pub output : List ℕ
  pub answer : Tidied
  pub after : List ℕ

-- what the definitions give, in a case's place
abbrev called : Call → Call
called c =
    record {
      text = c.text;
      mode = c.mode;
      output = c.output;
      answer = tidied_of c.text c.mode (length c.output);
      after = output_of c.text c.mode c.output;
    }

-- a text of a mode, an output, the output after it, and its answer: the plain form's length and the arguments
abbrev writes : ℕ → String → String → String → ℕ → ℕ → Call
writes mode t out after bytes arguments =
    record {
      text = bytes_of t;
      mode = mode;
      output = bytes_of out;
      answer = record { number = 0; place = 0; bytes = bytes; arguments = arguments };
      after = bytes_of after;
    }

-- a call that is refused, with an output that stays: its number, its place and the bytes needed
abbrev refuses : ℕ → List ℕ → String → ℕ → ℕ → ℕ → Call
refuses mode t out number at bytes =
    record {
      text = t;
      mode = mode;
      output = bytes_of out;
      answer = record { number = number; place = at; bytes = bytes; arguments = 0 };
      after = bytes_of out;
    }

abbrev pub written : List Call
written =
    -- "Mind `{: }<`, which must become `{}<`"; the rest of the output stays
    writes 0 "{: }<" "........" "{}<....." 3 1 ∷
    -- an output with no byte to spare; the figure of W10: a star, and places by number
    writes 0 "{ :.* }{:}" "......." "{:.*}{}" 7 3 ∷
    writes 0 "{000}{:07$}{n:.004$}" "................." "{0}{:07$}{n:.4$}." 16 8 ∷
    -- the other modes
    writes 1 "{00 :x }{: }<" ".........." "{0:x}{}<.." 8 1 ∷
    writes 2 "{:}{: x }{00: }" "............." "{}{: x }{0: }" 13 2 ∷
    -- nothing at all
    writes 0 "" "" "" 0 0 ∷
    writes 0 "" "ab" "ab" 0 0 ∷
    []

abbrev pub refused : List Call
refused =
    -- 11: a byte is lacking, or all; the answer says how many are needed
    refuses 0 (bytes_of "{:000}a") "....." 11 0 6 ∷
    refuses 0 (bytes_of "{{") "" 11 0 2 ∷
    -- 10: before 11
    refuses 0 (bytes_of "a}") "........" 10 0 0 ∷
    refuses 0 (bytes_of "{") "" 10 0 0 ∷
    refuses 1 (bytes_of "{:_}") "" 10 0 0 ∷
    -- 4: before 10 and 11, with how many bytes are UTF-8
    refuses 0 (0x7D ∷ 0xFF ∷ []) "" 4 1 0 ∷
    refuses 2 (0xC3 ∷ []) "...." 4 0 0 ∷
    -- 1: before all
    refuses 3 (0x7D ∷ 0xFF ∷ []) "" 1 0 0 ∷
    refuses 255 (bytes_of "a") "...." 1 0 0 ∷
    []

-- each is what the definitions give
pub calls : (map called written ≡ written) × (map called refused ≡ refused)
unfolding
    plain_text wanted is_faulty refused_as answer_by tidied_of output_of over is_long is_broken mode_of first_of larger argument_wants wants valid valid_prefix
    digits plain_spec plain_form encode
    bytes_of pick within member start continue space is_space is_start is_continue low high sequence_of char_of sequence_at decode peek_at chars_at
    chars_from take_while bytes run_end frame_of body is_literal end_of to_snippet start_of span_between is_at past_at consumed spaces_past is_plain text_end
    ends.end_of ends.span_across word_end is_underscore word_read is_digit decimal numeral digits_at number_from number_read is_empty number_count name_count
    count_read is_r raw_place word_place place_read is_align fill_read align_read sign_read plain_width width_read after_dot precision_read hex_type
    is_hex_or_hash debug_type word_type type_read format_read diagnostic_type spec_read argument_read no_marks no_counts is_default is_identifier gap_at
    field_read recover_read missing_read placeholder_read after_open after_close step_at steps_from reading argument_slots
    missing_slots closing_slots step_slots wrong faults_of marked record_of gather pieces front_only back_only reversed listed records findings found errors
calls = (refl, refl)

-- 3: a text over the limit, whatever else is the matter with it
pub long : (t : List ℕ) (mode room : ℕ) → mode ≤ 2 → 65535 < length t → refused_as t mode room ≡ 3
unfolding refused_as is_long first_of pick
long t mode room m h = rw (le-ltb 2 mode m, lt-ltb 65535 (length t) h)
