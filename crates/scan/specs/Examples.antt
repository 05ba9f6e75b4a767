-- Worked examples of the leaves, each computed. Rests on Characters, Words and Counts.
use Rattle.std.specs.Prelude.{◌≡◌, ℕ, true, false, [], ◌∷◌, refl, Option, Some, None}
use Rattle.utf8.specs.Choice.{pick, within}
use Rattle.utf8.specs.Utf8.{low, high, sequence_of, sequence_at, char_of, decode, peek_at}
use Rattle.utf8.specs.Chars.{chars_at, chars_from, take_while, bytes, run_end, before}
use Rattle.letters.specs.Table.{member}
use Rattle.letters.specs.Space.{space}
use Rattle.letters.specs.Start.{start}
use Rattle.letters.specs.Continue.{continue}
use Rattle.letters.specs.Questions.{is_space, is_start, is_continue}
use Rattle.frame.specs.Places.{place, snippet, range_of, span_of}
use Rattle.frame.specs.Spans.{to_snippet, start_of, span_between}
use Rattle.frame.specs.declared.TextRange.{TextRange}
use Rattle.frame.specs.declared.Frame.{Frame}
use Rattle.scan.specs.Characters.{is_at, consumed, spaces_past, is_plain, text_end}
use Rattle.scan.specs.Words.{word_end, is_underscore, word_read, is_digit, decimal, numeral, digits_at, number_from, number_read}
use Rattle.scan.specs.Counts.{is_empty, counted, number_count, name_count, count_read}
use Rattle.scan.specs.declared.Flaw.{Flaw}
use Rattle.scan.specs.declared.WordRead.{WordRead}
use Rattle.scan.specs.declared.NumberRead.{NumberRead}
use Rattle.scan.specs.declared.Numeral.{Numeral}
use Rattle.scan.specs.declared.Count.{Count}

-- the bytes from a to b
abbrev range : ℕ → ℕ → TextRange
range a b = range_of (place a) (place b)

-- a word of these bytes
abbrev worded : TextRange → Flaw → WordRead
worded r x = record { word = r; flaw = x }

-- a number of these digits
abbrev numbered : Option Numeral → TextRange → Flaw → NumberRead
numbered n r x = record { number = n; digits = r; flaw = x }

-- no style, no snippet, a text of two bytes
abbrev plain : Frame
plain = record { quote = 1; end = snippet 2; literal = false }

-- what is passed: `:` in `:}` and not in `}`; a space and a no-break space; text up to either brace
pub passed :
    (consumed (0x3A ∷ 0x7D ∷ []) (place 0) 0x3A ≡ record { ate = true; at = place 1 }) ×
    (consumed (0x7D ∷ []) (place 0) 0x3A ≡ record { ate = false; at = place 0 }) ×
    (spaces_past (0x20 ∷ 0xC2 ∷ 0xA0 ∷ 0x61 ∷ []) (place 0) ≡ place 3) ×
    (text_end (0x61 ∷ 0x7D ∷ 0x7B ∷ []) (place 0) ≡ place 1) ×
    (text_end (0x61 ∷ 0x7B ∷ 0x7D ∷ []) (place 0) ≡ place 1)
unfolding
    consumed spaces_past text_end is_plain is_at peek_at decode char_of sequence_at sequence_of low high within pick run_end chars_from chars_at take_while
    bytes is_space member space
passed = (refl, refl, refl, refl, refl)

-- words: `_` in `_}` is a flaw, `_a` is none, `ø` is two bytes, and an empty word is the empty range at its place
pub words :
    (word_read (0x5F ∷ 0x7D ∷ []) (place 0) ≡ worded (range 0 1) (Flaw.Underscore (range 0 1))) ×
    (word_read (0x5F ∷ 0x61 ∷ []) (place 0) ≡ worded (range 0 2) Flaw.Clean) ×
    (word_read (0xC3 ∷ 0xB8 ∷ 0x7D ∷ []) (place 0) ≡ worded (range 0 2) Flaw.Clean) ×
    (word_read (0x7B ∷ 0x7D ∷ []) (place 1) ≡ worded (range 1 1) Flaw.Clean)
unfolding
    word_read word_end is_underscore is_at peek_at decode char_of sequence_at sequence_of low high within pick run_end chars_from chars_at take_while bytes
    is_start is_continue member start continue
words = (refl, refl, refl, refl)

-- numbers: `65535` is clean, `65536` is over range and its digits are a flaw, leading zeros do not count, and `a` is none
pub numbers :
    (number_read (0x36 ∷ 0x35 ∷ 0x35 ∷ 0x33 ∷ 0x35 ∷ []) (place 0) ≡ numbered (Some (Numeral.Within 65535)) (range 0 5) Flaw.Clean) ×
    (number_read (0x36 ∷ 0x35 ∷ 0x35 ∷ 0x33 ∷ 0x36 ∷ []) (place 0) ≡ numbered (Some Numeral.Over) (range 0 5) (Flaw.TooLarge (range 0 5))) ×
    (number_read (0x30 ∷ 0x30 ∷ 0x30 ∷ 0x30 ∷ 0x30 ∷ 0x37 ∷ []) (place 0) ≡ numbered (Some (Numeral.Within 7)) (range 0 6) Flaw.Clean) ×
    (number_read (0x61 ∷ []) (place 0) ≡ numbered None (range 0 0) Flaw.Clean)
unfolding
    number_read number_from digits_at is_digit decimal numeral peek_at decode char_of sequence_at sequence_of low high within pick run_end chars_from chars_at
    take_while bytes
numbers = (refl, refl, refl, refl)

-- counts: `0$` is argument 0's, `a$` is by name, `7}` is fixed; over range a `$` is taken too; a word without `$` is given back, and `_` keeps its flaw
pub counts :
    (count_read (0x30 ∷ 0x24 ∷ []) plain (place 0) ≡ counted (Count.ByArgument (Numeral.Within 0)) (place 2) Flaw.Clean 0) ×
    (count_read (0x61 ∷ 0x24 ∷ []) plain (place 0) ≡
    counted (Count.ByName (range 0 1) (span_of (snippet 1) (snippet 2))) (place 2) Flaw.Clean 0) ×
    (count_read (0x37 ∷ 0x7D ∷ []) plain (place 0) ≡ counted (Count.Fixed (Numeral.Within 7)) (place 1) Flaw.Clean 0) ×
    (count_read (0x36 ∷ 0x35 ∷ 0x35 ∷ 0x33 ∷ 0x36 ∷ 0x24 ∷ []) plain (place 0) ≡
    counted (Count.ByArgument Numeral.Over) (place 6) (Flaw.TooLarge (range 0 5)) 0) ×
    (count_read (0x36 ∷ 0x35 ∷ 0x35 ∷ 0x33 ∷ 0x36 ∷ 0x7D ∷ []) plain (place 0) ≡
    counted (Count.Fixed Numeral.Over) (place 5) (Flaw.TooLarge (range 0 5)) 0) ×
    (count_read (0x61 ∷ 0x7D ∷ []) plain (place 0) ≡ counted Count.Implied (place 0) Flaw.Clean 1) ×
    (count_read (0x5F ∷ 0x7D ∷ []) plain (place 0) ≡ counted Count.Implied (place 0) (Flaw.Underscore (range 0 1)) 1)
unfolding
    count_read number_count name_count is_empty span_between start_of to_snippet consumed number_read number_from digits_at is_digit decimal numeral word_read
    word_end is_underscore is_at peek_at decode char_of sequence_at sequence_of low high within pick run_end chars_from chars_at take_while bytes is_start
    is_continue member start continue before
counts = (refl, refl, refl, refl, refl, refl, refl)
