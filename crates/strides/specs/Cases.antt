-- Moves beside the characters of a text and the most that its mode allows, computed. Rests on Strides and the definitions of a reading.
use Rattle.std.specs.Prelude.{ℕ, ◌*◌, ◌≡◌, refl, false, List, [], ◌∷◌}
use Rattle.utf8.specs.Choice.{pick, within}
use Rattle.utf8.specs.Utf8.{low, high, sequence_of, char_of, sequence_at, decode, peek_at}
use Rattle.utf8.specs.Chars.{chars_at, chars_from, before, take_while, bytes, run_end}
use Rattle.letters.specs.Table.{member}
use Rattle.letters.specs.Start.{start}
use Rattle.letters.specs.Continue.{continue}
use Rattle.letters.specs.Space.{space}
use Rattle.letters.specs.Questions.{is_space, is_start, is_continue}
use Rattle.frame.specs.Places.{snippet}
use Rattle.frame.specs.declared.Frame.{Frame}
use Rattle.frame.specs.declared.Mode.{Mode}
use Rattle.scan.specs.Characters.{is_at, past_at, consumed, spaces_past, is_plain, text_end}
use Rattle.scan.specs.Words.{word_end, is_underscore, word_read, is_digit, decimal, numeral, digits_at, number_from, number_read}
use Rattle.scan.specs.Counts.{is_empty, number_count, name_count, count_read}
use Rattle.placeholder.specs.Places.{is_r, raw_place, word_place, place_read}
use Rattle.placeholder.specs.Parts.{is_align, fill_read, align_read, sign_read, plain_width, width_read, after_dot, precision_read}
use Rattle.placeholder.specs.Types.{hex_type, is_hex_or_hash, debug_type, word_type, type_read}
use Rattle.placeholder.specs.Format.{format_read}
use Rattle.placeholder.specs.Specs.{diagnostic_type, spec_read}
use Rattle.placeholder.specs.Arguments.{argument_read}
use Rattle.closing.specs.Defaults.{no_marks, no_counts, is_default, is_identifier}
use Rattle.closing.specs.Recovery.{gap_at, field_read, recover_read}
use Rattle.closing.specs.Wholes.{missing_read, placeholder_read}
use Rattle.reading.specs.Steps.{after_open, after_close, step_at, steps_from, reading}
use Rattle.reading.specs.Lines.{chars_in}
use Rattle.reading.specs.Moves.{brace_at, moves_in, moves}
use Rattle.reading.specs.Cases.{bytes_of}
use Rattle.strides.specs.Strides.{characters, times}

-- how many moves a reading takes, the characters of its text, and the most moves that its mode allows
pub record Shown : Type 0 where
  pub moves : ℕ
  pub characters : ℕ
  pub most : ℕ

abbrev pub shown : ℕ → ℕ → ℕ → Shown
shown moves characters most = record { moves = moves; characters = characters; most = most }

-- a frame of no snippet
abbrev bare : Frame
bare = record { quote = 1; end = snippet 0; literal = false }

unfoldable pub stride : Mode → List ℕ → Shown
stride m t = shown (moves t bare m) (characters t) (times m * characters t)

-- `{:ø`, whose last character takes two bytes
abbrev wide : List ℕ
wide = 0x7B ∷ 0x3A ∷ 0xC3 ∷ 0xB8 ∷ []

pub strides :
    (stride Mode.Format (bytes_of "") ≡ shown 0 0 0) ×
    -- all but the `{` and the `:` is passed twice
    (stride Mode.Format (bytes_of "{:aaaa") ≡ shown 10 6 12) ×
    (stride Mode.Format wide ≡ shown 4 3 6) ×
    -- the type is the `x` alone, and the rest of the word that was given back is read again as literal text
    (stride Mode.Format (bytes_of "{:xaaaa") ≡ shown 12 7 14) ×
    -- a field met in recovery gives back too
    (stride Mode.Format (bytes_of "{a.b:cc") ≡ shown 9 7 14) ×
    -- a lone `}` is passed, and nothing behind it
    (stride Mode.Format (bytes_of "a}b") ≡ shown 2 3 6) ×
    -- in the other modes each character is passed once at most, and here it is
    (stride Mode.InlineAsm (bytes_of "{:aaaa") ≡ shown 6 6 6) ×
    (stride Mode.Diagnostic (bytes_of "{:aaaa") ≡ shown 6 6 6)
unfolding
    stride bytes_of pick within member start continue space is_space is_start is_continue low high sequence_of char_of sequence_at decode peek_at
    chars_at chars_from before take_while bytes run_end is_at past_at consumed spaces_past is_plain text_end word_end is_underscore word_read is_digit decimal numeral digits_at
    number_from number_read is_empty number_count name_count count_read is_r raw_place word_place place_read is_align fill_read align_read sign_read plain_width width_read
    after_dot precision_read hex_type is_hex_or_hash debug_type word_type type_read format_read diagnostic_type spec_read argument_read no_marks no_counts is_default
    is_identifier gap_at field_read recover_read missing_read placeholder_read after_open after_close step_at steps_from reading chars_in brace_at moves_in moves
strides = (refl, refl, refl, refl, refl, refl, refl, refl)
