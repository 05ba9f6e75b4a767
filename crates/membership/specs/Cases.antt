-- Worked verdicts, each computed from the definitions: every rule broken alone and with later ones, texts that break none, and the refusals in
-- their order. Rests on Verdicts and on the reader's definitions, on no law.
use Rattle.std.specs.Prelude.{◌≡◌, refl, true, false, List, [], ◌∷◌, map, ℕ, Some, None}
use Prim.Native.String.{String}
use Rattle.utf8.specs.Choice.{pick, within}
use Rattle.utf8.specs.Utf8.{low, high, sequence_of, char_of, sequence_at, decode, peek_at, valid, valid_prefix}
use Rattle.utf8.specs.Chars.{chars_at, chars_from, take_while, bytes, run_end}
use Rattle.letters.specs.Table.{member}
use Rattle.letters.specs.Start.{start}
use Rattle.letters.specs.Continue.{continue}
use Rattle.letters.specs.Space.{space}
use Rattle.letters.specs.Questions.{is_space, is_start, is_continue}
use Rattle.frame.specs.Frames.{frame_of, body, hash_marks, opening, closing, raw_literal, same, is_literal, end_of}
use Rattle.frame.specs.Spans.{to_snippet, start_of, span_between}
use Rattle.scan.specs.Characters.{is_at, past_at, consumed, spaces_past, is_plain, text_end}
use Rattle.scan.specs.Ends as ends
use Rattle.scan.specs.Words.{word_end, is_underscore, word_read, is_digit, decimal, numeral, digits_at, number_from, number_read}
use Rattle.scan.specs.Counts.{is_empty, number_count, name_count, count_read}
use Rattle.placeholder.specs.Places.{is_r, raw_place, word_place, place_read}
use Rattle.placeholder.specs.Parts.{is_align, fill_read, align_read, sign_read, plain_width, width_read, after_dot, precision_read}
use Rattle.placeholder.specs.Types.{hex_type, is_hex_or_hash, debug_type, word_type, type_read}
use Rattle.placeholder.specs.Format.{format_read}
use Rattle.placeholder.specs.Specs.{diagnostic_type, spec_read}
use Rattle.placeholder.specs.Arguments.{argument_read}
use Rattle.closing.specs.Defaults.{no_marks, no_counts, is_default, is_identifier}
use Rattle.closing.specs.Recovery.{gap_at, field_read, recover_read}
use Rattle.closing.specs.Wholes.{missing_read, placeholder_read}
use Rattle.reading.specs.Steps.{after_open, after_close, step_at, steps_from, reading}
use Rattle.reading.specs.Faults.{argument_slots, missing_slots, closing_slots, step_slots, wrong, faults_of, marked}
use Rattle.reading.specs.Records.{record_of}
use Rattle.reading.specs.Lists.{gather, pieces, front_only, back_only, reversed, listed, records, findings, found, errors}
use Rattle.reading.specs.Texts.{is_boundary, literal_text}
use Rattle.reading.specs.Answers.{is_long, is_broken, ends_in_newline, lacks_newline, frame_for, first_of}
use Rattle.reading.specs.Cases.{bytes_of, ask}
use Rattle.reading.specs.declared.Request.{Request}
use Rattle.membership.specs.Verdicts.{first_where, second_where, pieces_verdict, text_verdict, refused_as, judged_of}
use Rattle.membership.specs.declared.Verdict.{Verdict}

-- a call with no snippet bytes, and its verdict
pub record Judged : Type 0 where
  pub text : List ℕ
  pub request : Request
  pub verdict : Verdict

-- what the definitions give, in a case's place
abbrev judged : Judged → Judged
judged c = record { text = c.text; request = c.request; verdict = judged_of c.text [] c.request }

-- a Format text with no style
abbrev of : String → Verdict → Judged
of t v = record { text = bytes_of t; request = ask 0 None false false; verdict = v }

abbrev yes : String → Judged
yes t = of t Verdict.Yes

abbrev broken : String → ℕ → ℕ → Judged
broken t k p = of t (Verdict.Broken k p)

-- a call that is refused
abbrev refused : List ℕ → Request → ℕ → ℕ → Judged
refused t q n p = record { text = t; request = q; verdict = Verdict.Refused n p }

abbrev pub members : List Judged
members =
    yes "{number}" ∷
    yes "Sample {number} of {date}" ∷
    -- a fixed width and precision, a sign, a flag, a fill and a type are no matter; nor are other names before the number
    yes "{name :*>+#08.3e}{{{number:>6}{date}{date}" ∷
    []

abbrev pub errs : List Judged
errs =
    broken "{number" 1 0 ∷
    broken "a{number}}" 1 0 ∷
    -- a raw name is an error
    broken "{r#number}" 1 0 ∷
    -- with all the others
    broken "{date:.*}{}{number}{number}{" 1 0 ∷
    []

abbrev pub places : List Judged
places =
    broken "{number}{}" 2 1 ∷
    broken "{number} {0}" 2 2 ∷
    -- with 3, then with 4 and 5, too
    broken "{number:.*} {:.*}" 2 2 ∷
    broken "{date:w$}{}{number}{number}{1}" 2 1 ∷
    []

abbrev pub counts : List Judged
counts =
    broken "{number:.*}" 3 0 ∷
    broken "{number:1$}" 3 0 ∷
    broken "{number:.1$}" 3 0 ∷
    broken "{number:w$}" 3 0 ∷
    broken "a{number}{date:.w$}{date:.*}" 3 2 ∷
    -- with 4 and 5 too
    broken "{date}{date:5.*}" 3 1 ∷
    broken "{date}{number}{number:.*}" 3 2 ∷
    []

abbrev pub numbers : List Judged
numbers =
    -- missing: the number of pieces
    broken "" 4 0 ∷
    broken "a" 4 1 ∷
    broken "{date} {Number}{numbers}" 4 4 ∷
    -- a second one
    broken "{number}{number}" 4 1 ∷
    broken "{number} {number}{number}" 4 2 ∷
    -- with 5 too
    broken "{date}{number} {number}" 4 3 ∷
    []

abbrev pub dates : List Judged
dates =
    broken "{date}{number}" 5 0 ∷
    -- the lookup line, with names
    broken "{moisture:.1} {date} {number}" 5 2 ∷
    broken "{date} {date} {number} {date}" 5 0 ∷
    []

abbrev pub refusals : List Judged
refusals =
    -- 1 before 17 and 2; 17 before 2 and 4; 2 before 4; 4 before 5; 5
    refused [] (ask 3 None true false) 1 0 ∷
    refused (0xFF ∷ []) (ask 1 None true false) 17 0 ∷
    refused (bytes_of "{number}") (ask 2 None false false) 17 0 ∷
    refused (0xFF ∷ []) (ask 0 None true false) 2 0 ∷
    refused [] (ask 0 (Some 256) false false) 2 0 ∷
    refused (0x61 ∷ 0xFF ∷ []) (ask 0 None false true) 4 1 ∷
    refused (bytes_of "{number}") (ask 0 None false true) 5 0 ∷
    []

-- each is what the definitions give
pub verdicts :
    (map judged members ≡ members) ×
    (map judged errs ≡ errs) ×
    (map judged places ≡ places) ×
    (map judged counts ≡ counts) ×
    (map judged numbers ≡ numbers) ×
    (map judged dates ≡ dates) ×
    (map judged refusals ≡ refusals)
unfolding
    first_where second_where pieces_verdict text_verdict refused_as judged_of is_boundary literal_text first_of
    bytes_of pick within member start continue space is_space is_start is_continue low high sequence_of char_of sequence_at decode peek_at
    valid valid_prefix chars_at chars_from take_while bytes run_end frame_of body hash_marks opening closing raw_literal same is_literal end_of
    to_snippet start_of span_between is_at past_at consumed spaces_past is_plain text_end ends.end_of ends.span_across word_end is_underscore word_read
    is_digit decimal numeral digits_at number_from number_read is_empty number_count name_count count_read is_r raw_place word_place place_read is_align
    fill_read align_read sign_read plain_width width_read after_dot precision_read hex_type is_hex_or_hash debug_type word_type type_read format_read
    diagnostic_type spec_read argument_read no_marks no_counts is_default is_identifier gap_at field_read recover_read
    missing_read placeholder_read after_open after_close step_at steps_from reading argument_slots missing_slots closing_slots step_slots wrong
    faults_of marked record_of gather pieces front_only back_only reversed listed records findings found errors is_long is_broken ends_in_newline lacks_newline
    frame_for
verdicts = (refl, refl, refl, refl, refl, refl, refl)
