-- Worked counts, each computed from the definitions: texts with and without errors, every kind, stars, a refused text, sums, and the bytes of
-- lists. Rests on Totals and Season and on the reader's definitions, on no law.
use Rattle.std.specs.Prelude.{◌≡◌, refl, List, [], ◌∷◌, ◌++◌, map, ℕ, length, replicate}
use Rattle.std.proofs.Common.{ap, arith}
use Prim.Native.String.{String}
use Rattle.utf8.specs.Choice.{pick, within}
use Rattle.utf8.specs.Utf8.{low, high, sequence_of, char_of, sequence_at, decode, peek_at, valid, valid_prefix}
use Rattle.utf8.specs.Chars.{chars_at, chars_from, take_while, bytes, run_end}
use Rattle.letters.specs.Table.{member}
use Rattle.letters.specs.Start.{start}
use Rattle.letters.specs.Continue.{continue}
use Rattle.letters.specs.Space.{space}
use Rattle.letters.specs.Questions.{is_space, is_start, is_continue}
use Rattle.frame.specs.Frames.{frame_of, body, hash_marks, opening, closing, raw_literal, same, is_literal, end_of}
use Rattle.frame.specs.Spans.{to_snippet, start_of, span_between}
use Rattle.scan.specs.Characters.{is_at, past_at, consumed, spaces_past, is_plain, text_end}
use Rattle.scan.specs.Ends as ends
use Rattle.scan.specs.Words.{word_end, is_underscore, word_read, is_digit, decimal, numeral, digits_at, number_from, number_read}
use Rattle.scan.specs.Counts.{is_empty, number_count, name_count, count_read}
use Rattle.placeholder.specs.Places.{is_r, raw_place, word_place, place_read}
use Rattle.placeholder.specs.Parts.{is_align, fill_read, align_read, sign_read, plain_width, width_read, after_dot, precision_read}
use Rattle.placeholder.specs.Types.{hex_type, is_hex_or_hash, debug_type, word_type, type_read}
use Rattle.placeholder.specs.Format.{format_read}
use Rattle.placeholder.specs.Specs.{diagnostic_type, spec_read}
use Rattle.placeholder.specs.Arguments.{argument_read}
use Rattle.closing.specs.Defaults.{no_marks, no_counts, is_default, is_identifier}
use Rattle.closing.specs.Recovery.{gap_at, field_read, recover_read}
use Rattle.closing.specs.Wholes.{missing_read, placeholder_read}
use Rattle.reading.specs.Steps.{after_open, after_close, step_at, steps_from, reading}
use Rattle.reading.specs.Faults.{argument_slots, missing_slots, closing_slots, step_slots, wrong, faults_of, marked}
use Rattle.reading.specs.Records.{record_of}
use Rattle.reading.specs.Lists.{gather, pieces, front_only, back_only, reversed, listed, records, findings, found, errors}
use Rattle.reading.specs.Answers.{is_broken, frame_for}
use Rattle.reading.specs.Cases.{bytes_of}
use Rattle.seasons.specs.Totals.{read_lines, counted_in, times, tallied, own, plus, sums}
use Rattle.seasons.specs.Season.{two_bytes, written, IsList}

-- a text, and its own totals
pub record Count : Type 0 where
  pub text : List ℕ
  pub totals : List ℕ

-- what the definitions give, in a case's place
abbrev given : Count → Count
given c = record { text = c.text; totals = own c.text }

-- totals from "sound", pieces (literal, next, at, over, named), the kinds in order, and stars, of one text that is read
abbrev read : String → ℕ → List ℕ → List ℕ → ℕ → Count
read t sound ps ks stars = record { text = bytes_of t; totals = 1 ∷ 0 ∷ sound ∷ (ps ++ (ks ++ (stars ∷ []))) }

-- no error; so many of kinds 1 and 2, and one of a later kind, from 3 on
abbrev none : List ℕ
none = replicate 15 0

abbrev kinds : ℕ → ℕ → ℕ → List ℕ
kinds one two later = one ∷ two ∷ (replicate later 0 ++ (1 ∷ []))

abbrev only : ℕ → ℕ → ℕ → ℕ → List ℕ
only one two before after = kinds one two before ++ replicate after 0

abbrev pub sound_texts : List Count
sound_texts =
    read "" 1 (0 ∷ 0 ∷ 0 ∷ 0 ∷ 0 ∷ []) none 0 ∷
    read "Value {name}: {:>8.3}" 1 (2 ∷ 1 ∷ 0 ∷ 0 ∷ 1 ∷ []) none 0 ∷
    -- a star is a piece's; its own place counts too
    read "{:.*} {} {0}{1}" 1 (2 ∷ 2 ∷ 2 ∷ 0 ∷ 0 ∷ []) none 1 ∷
    []

abbrev pub wrong_texts : List Count
wrong_texts =
    read "}" 0 (0 ∷ 0 ∷ 0 ∷ 0 ∷ 0 ∷ []) (1 ∷ replicate 14 0) 0 ∷
    read "{a b}" 0 (1 ∷ 0 ∷ 0 ∷ 0 ∷ 1 ∷ []) (1 ∷ 1 ∷ replicate 13 0) 0 ∷
    read "{" 0 (0 ∷ 1 ∷ 0 ∷ 0 ∷ 0 ∷ []) (only 0 0 0 12) 0 ∷
    read "{r#a}" 0 (0 ∷ 0 ∷ 0 ∷ 0 ∷ 1 ∷ []) (only 0 0 1 11) 0 ∷
    read "{:?x}" 0 (1 ∷ 1 ∷ 0 ∷ 0 ∷ 0 ∷ []) (only 1 1 2 10) 0 ∷
    -- kind 6 twice
    read "{:_}" 0 (0 ∷ 1 ∷ 0 ∷ 0 ∷ 0 ∷ []) (0 ∷ 0 ∷ 0 ∷ 0 ∷ 0 ∷ 2 ∷ replicate 9 0) 0 ∷
    read "{65536}" 0 (0 ∷ 0 ∷ 0 ∷ 1 ∷ 0 ∷ []) (only 0 0 4 8) 0 ∷
    read "{?:x}" 0 (0 ∷ 1 ∷ 0 ∷ 0 ∷ 0 ∷ []) (only 1 1 5 7) 0 ∷
    read "{?}" 0 (0 ∷ 1 ∷ 0 ∷ 0 ∷ 0 ∷ []) (only 1 1 6 6) 0 ∷
    read "{a=}" 0 (0 ∷ 0 ∷ 0 ∷ 0 ∷ 1 ∷ []) (only 1 1 7 5) 0 ∷
    read "{>}" 0 (0 ∷ 1 ∷ 0 ∷ 0 ∷ 0 ∷ []) (only 1 1 8 4) 0 ∷
    read "{+}" 0 (0 ∷ 1 ∷ 0 ∷ 0 ∷ 0 ∷ []) (only 1 1 9 3) 0 ∷
    -- a star of a field met in recovery is none of a piece
    read "{a.b:.*} {:.*}" 0 (1 ∷ 1 ∷ 0 ∷ 0 ∷ 1 ∷ []) (only 0 1 10 2) 1 ∷
    read "{a.0}" 0 (0 ∷ 0 ∷ 0 ∷ 0 ∷ 1 ∷ []) (only 0 1 11 1) 0 ∷
    read "{a,}" 0 (0 ∷ 0 ∷ 0 ∷ 0 ∷ 1 ∷ []) (only 1 1 12 0) 0 ∷
    []

-- a text that is not UTF-8, though it has a piece before that
abbrev pub refused_texts : List Count
refused_texts = record { text = 0x7B ∷ 0x7D ∷ 0xFF ∷ []; totals = 1 ∷ 1 ∷ replicate 22 0 } ∷ []

-- each is what the definitions give; then three texts together
pub counts :
    (map given sound_texts ≡ sound_texts) ×
    (map given wrong_texts ≡ wrong_texts) ×
    (map given refused_texts ≡ refused_texts) ×
    (sums (bytes_of "{}a" ∷ (0xFF ∷ []) ∷ bytes_of "{" ∷ []) ≡ 3 ∷ 1 ∷ 1 ∷ 1 ∷ 2 ∷ 0 ∷ 0 ∷ 0 ∷ (only 0 0 0 12 ++ (0 ∷ [])))
unfolding
    read_lines counted_in times tallied own plus sums
    bytes_of pick within member start continue space is_space is_start is_continue low high sequence_of char_of sequence_at decode peek_at
    valid valid_prefix chars_at chars_from take_while bytes run_end frame_of body hash_marks opening closing raw_literal same is_literal end_of
    to_snippet start_of span_between is_at past_at consumed spaces_past is_plain text_end ends.end_of ends.span_across word_end is_underscore word_read
    is_digit decimal numeral digits_at number_from number_read is_empty number_count name_count count_read is_r raw_place word_place place_read is_align
    fill_read align_read sign_read plain_width width_read after_dot precision_read hex_type is_hex_or_hash debug_type word_type type_read format_read
    diagnostic_type spec_read argument_read no_marks no_counts is_default is_identifier gap_at field_read recover_read
    missing_read placeholder_read after_open after_close step_at steps_from reading argument_slots missing_slots closing_slots step_slots wrong
    faults_of marked record_of gather pieces front_only back_only reversed listed records findings found errors is_broken frame_for
counts = (refl, refl, refl, refl)

-- the bytes of two numbers, and of a list of two texts, the second empty
pub written_as : (two_bytes 258 ≡ 2 ∷ 1 ∷ []) × (two_bytes 65535 ≡ 255 ∷ 255 ∷ []) ×
    (two_bytes 2 ++ written ((0x7B ∷ 0x7D ∷ []) ∷ [] ∷ []) ≡ 2 ∷ 0 ∷ 2 ∷ 0 ∷ 0x7B ∷ 0x7D ∷ 0 ∷ 0 ∷ [])
unfolding written
written_as = (refl, refl, refl)

-- no list: no bytes at all; a byte too many after no texts; 10,001 texts
pub nothing : (ts : List (List ℕ)) → ¬ IsList [] ts
nothing ts h = absurd (omega (arith, ap length h.whole))

pub one_too_many : (ts : List (List ℕ)) → ¬ IsList (0 ∷ 0 ∷ 0 ∷ []) ts
unfolding written
one_too_many [] h = absurd (omega (arith, ap length h.whole))
one_too_many (t ∷ ts) h = absurd (omega (arith, ap length h.whole))

pub too_many : (bytes : List ℕ) (ts : List (List ℕ)) → length ts ≡ 10001 → ¬ IsList bytes ts
too_many bytes ts e h = absurd (omega (arith, e, h.few))
