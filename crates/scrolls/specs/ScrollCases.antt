-- Where to scroll, in six texts, computed: the number of each finding, where the piece with that number starts, and where the fault was found.
-- Rests on Scrolling and the definitions of a reading.
use Rattle.std.specs.Prelude.{ℕ, ◌≡◌, refl, false, List, [], ◌∷◌, length, get_or}
use Prim.Native.String.{String}
use Rattle.utf8.specs.Choice.{pick, within}
use Rattle.utf8.specs.Utf8.{low, high, sequence_of, char_of, sequence_at, decode, peek_at}
use Rattle.utf8.specs.Chars.{chars_at, chars_from, take_while, bytes, run_end}
use Rattle.letters.specs.Table.{member}
use Rattle.letters.specs.Start.{start}
use Rattle.letters.specs.Continue.{continue}
use Rattle.letters.specs.Space.{space}
use Rattle.letters.specs.Questions.{is_space, is_start, is_continue}
use Rattle.frame.specs.Places.{place, snippet, range_of}
use Rattle.frame.specs.declared.Frame.{Frame}
use Rattle.frame.specs.declared.Mode.{Mode}
use Rattle.scan.specs.Characters.{is_at, past_at, consumed, spaces_past, is_plain, text_end}
use Rattle.scan.specs.Words.{word_end, is_underscore, word_read, is_digit, decimal, numeral, digits_at, number_from, number_read}
use Rattle.scan.specs.Counts.{is_empty, number_count, name_count, count_read}
use Rattle.placeholder.specs.Places.{is_r, raw_place, word_place, place_read}
use Rattle.placeholder.specs.Parts.{is_align, fill_read, align_read, sign_read, plain_width, width_read, after_dot, precision_read}
use Rattle.placeholder.specs.Types.{hex_type, is_hex_or_hash, debug_type, word_type, type_read}
use Rattle.placeholder.specs.Format.{format_read}
use Rattle.placeholder.specs.Specs.{spec_read}
use Rattle.placeholder.specs.Arguments.{argument_read}
use Rattle.closing.specs.Defaults.{no_marks, no_counts, is_default, is_identifier}
use Rattle.closing.specs.Recovery.{gap_at, field_read, recover_read}
use Rattle.closing.specs.Wholes.{missing_read, placeholder_read}
use Rattle.reading.specs.Steps.{after_open, after_close, step_at, steps_from, reading}
use Rattle.reading.specs.Faults.{argument_slots, missing_slots, closing_slots, step_slots, wrong, faults_of, Finding, marked}
use Rattle.reading.specs.Lists.{gather, pieces, findings, found}
use Rattle.reading.specs.Cases.{bytes_of}
use Rattle.reading.specs.declared.Piece.{Piece}
use Rattle.scrolls.specs.Scrolling.{starts_at, found_at}

-- a finding's number, where the piece with that number starts, and where the fault was found
pub record Shown : Type 0 where
  pub number : ℕ
  pub starts : ℕ
  pub at : ℕ

abbrev pub shown : ℕ → ℕ → ℕ → Shown
shown number starts at = record { number = number; starts = starts; at = at }

-- a frame of no snippet
abbrev bare : Frame
bare = record { quote = 1; end = snippet 0; literal = false }

-- each finding of a text; past the last piece stands the end
unfoldable pub shown_in : List ℕ → List Piece → List Finding → List Shown
shown_in t ps [] = []
shown_in t ps (x ∷ xs) =
    let end = Piece.Literal (range_of (place (length t)) (place (length t))) in
    shown x.piece (starts_at (get_or ps x.piece end)).0 (found_at t x.fault).0 ∷ shown_in t ps xs

unfoldable pub scroll : String → List Shown
scroll s = let t = bytes_of s in shown_in t (pieces t bare Mode.Format) (found t bare Mode.Format)

pub scrolls :
    -- `_` stands in the second piece, which starts at byte 1
    (scroll "x{_}" ≡ shown 1 1 2 ∷ []) ×
    -- B10: `?` without a colon, twice in the first piece; then a lone `}`, after all pieces
    (scroll "{foo?}" ≡ shown 0 0 4 ∷ shown 0 0 4 ∷ shown 1 6 5 ∷ []) ×
    -- at the end of the text, in the last piece
    (scroll "a{" ≡ shown 1 1 2 ∷ []) ×
    -- the sign after the `?`, and the same sign where a `}` is missing; then a lone `}`, after the literal too
    (scroll "{:?#}" ≡ shown 0 0 3 ∷ shown 0 0 3 ∷ shown 2 5 4 ∷ []) ×
    -- a field access, from its place on, in the piece after a doubled brace
    (scroll "{{{a.b}" ≡ shown 1 2 4 ∷ shown 1 2 3 ∷ []) ×
    -- no piece at all
    (scroll "}" ≡ shown 0 1 0 ∷ [])
unfolding
    shown_in scroll bytes_of pick within member start continue space is_space is_start is_continue low high sequence_of char_of sequence_at decode peek_at
    chars_at chars_from take_while bytes run_end is_at past_at consumed spaces_past is_plain text_end word_end is_underscore word_read is_digit decimal numeral digits_at
    number_from number_read is_empty number_count name_count count_read is_r raw_place word_place place_read is_align fill_read align_read sign_read plain_width width_read
    after_dot precision_read hex_type is_hex_or_hash debug_type word_type type_read format_read spec_read argument_read no_marks no_counts is_default
    is_identifier gap_at field_read recover_read missing_read placeholder_read after_open after_close step_at steps_from reading argument_slots missing_slots
    closing_slots step_slots wrong faults_of marked gather pieces findings found
scrolls = (refl, refl, refl, refl, refl, refl)
