-- The template bench of document 01, B1 to B15, further cases, numbers that are too large, notices and refusals: tables with every field of every record, one statement
-- that the checker computes. Format, no style, no snippet, where nothing else is said.
use Rattle.std.specs.Prelude.{ℕ, ◌≡◌, refl, true, false, List, [], ◌∷◌, ◌++◌, Some, None}
use Prim.Native.String.{String}
use Rattle.utf8.specs.Choice.{pick, within}
use Rattle.utf8.specs.Utf8.{low, high, sequence_of, char_of, sequence_at, decode, peek_at, valid, valid_prefix}
use Rattle.utf8.specs.Chars.{chars_at, chars_from, before, take_while, bytes, run_end}
use Rattle.letters.specs.Table.{member}
use Rattle.letters.specs.Start.{start}
use Rattle.letters.specs.Continue.{continue}
use Rattle.letters.specs.Space.{space}
use Rattle.letters.specs.Questions.{is_space, is_start, is_continue}
use Rattle.frame.specs.Frames.{frame_of, body, hash_marks, opening, closing, raw_literal, same, is_literal, end_of}
use Rattle.frame.specs.Spans.{to_snippet, start_of, span_between}
use Rattle.scan.specs.Characters.{is_at, past_at, consumed, spaces_past, is_plain, text_end}
use Rattle.scan.specs.Ends as ends
use Rattle.scan.specs.Words.{word_end, is_underscore, word_read, is_digit, decimal, numeral, digits_at, number_from, number_read}
use Rattle.scan.specs.Counts.{is_empty, number_count, name_count, count_read}
use Rattle.scan.specs.declared.Count.{Count}
use Rattle.scan.specs.declared.Numeral.{Numeral}
use Rattle.placeholder.specs.Places.{is_r, raw_place, word_place, place_read}
use Rattle.placeholder.specs.Parts.{is_align, fill_read, align_read, sign_read, plain_width, width_read, after_dot, precision_read}
use Rattle.placeholder.specs.Filling.{filling}
use Rattle.placeholder.specs.Types.{hex_type, is_hex_or_hash, debug_type, word_type, type_read}
use Rattle.placeholder.specs.Format.{format_read}
use Rattle.placeholder.specs.Specs.{diagnostic_type, spec_read}
use Rattle.placeholder.specs.Arguments.{argument_read}
use Rattle.placeholder.specs.declared.Align.{Align}
use Rattle.placeholder.specs.declared.Fill.{Fill}
use Rattle.placeholder.specs.declared.Place.{Place}
use Rattle.closing.specs.Defaults.{no_marks, no_counts, is_default, is_identifier}
use Rattle.closing.specs.Recovery.{gap_at, field_read, recover_read}
use Rattle.closing.specs.Wholes.{missing_read, placeholder_read}
use Rattle.reading.specs.Moves.{brace_at, moves_in, moves}
use Rattle.reading.specs.Wants.{larger, argument_wants, wants}
use Rattle.reading.specs.Steps.{after_open, after_close, step_at, steps_from, reading}
use Rattle.reading.specs.Faults.{argument_slots, missing_slots, closing_slots, step_slots, wrong, faults_of, marked}
use Rattle.reading.specs.Records.{error_of, bare_error, record_of}
use Rattle.reading.specs.Lines.{chars_in, newlines, cut, line_after, ended_lines, line_start}
use Rattle.reading.specs.Lists.{gather, pieces, front_only, back_only, reversed, listed, records, findings, found, errors, places, literal_chars, to_the_end, same_span, is_last, lines_in, lines, counts_of}
use Rattle.reading.specs.Answers.{no_counts as none_counted, answered, is_long, is_broken, ends_in_newline, lacks_newline, mode_of, mode_for, frame_for, first_of, answer_by, answer_of}
use Rattle.reading.specs.Cases.{Case, rooms256, all_given, bytes_of, span, range, some, none, quoted, unquoted, lit, arg, named, spec, typed, empty, ask, moves_of, counts, rooms, done, bare, source}
use Rattle.reading.specs.declared.Answer.{Answer}

-- document 01's table
abbrev pub table : List Case
table =
    -- B1: nothing
    bare 0 "" [] [] ∷
    -- B2: literal bytes 1..3
    bare 0 "{{a" (lit 1 3 ∷ []) [] ∷
    -- B3: next 0, place span 2..2
    bare 0 "{}" (arg 0 2 (Place.Next 0) (span 2 2) (empty 1) ∷ []) [] ∷
    -- B4: star 0, next 1; next 2
    bare 0 "{:.*}{}"
    (arg 0 5 (Place.Next 1) (span 2 2) (spec None Align.Unknown false Count.Implied none (Count.ByStar 0) (some 3 5) (range 4 4) none) ∷
    arg 5 7 (Place.Next 2) (span 7 7) (empty 6) ∷
    []) [] ∷
    -- B5: width by argument 0, span 3..5, no zero flag
    bare 0 "{:0$}"
    (arg 0 5 (Place.Next 0) (span 2 2) (spec None Align.Unknown false (Count.ByArgument (Numeral.Within 0)) (some 3 5) Count.Implied none (range 4 4) none) ∷
    []) [] ∷
    -- B6: zero flag, width implied
    bare 0 "{:0}"
    (arg 0 4 (Place.Next 0) (span 2 2) (spec None Align.Unknown true Count.Implied none Count.Implied none (range 3 3) none) ∷ []) [] ∷
    -- B7: at 65535, clean
    bare 0 "{65535}" (arg 0 7 (Place.At (Numeral.Within 65535)) (span 2 7) (empty 6) ∷ []) [] ∷
    -- B8: over; kind 7, span 2..8 (it takes in the next character)
    bare 0 "{65536}" (arg 0 7 (Place.At Numeral.Over) (span 2 7) (empty 6) ∷ []) (error_of 7 (span 2 8) none (quoted 1 6) none 0 ∷ []) ∷
    -- B9: fill `}`, left; kind 3 at 4..4, second 3..4
    bare 0 "{:}<"
    (arg 0 4 (Place.Next 0) (span 2 2)
    (spec (filling 0x7D (span 3 4)) Align.Left false Count.Implied none Count.Implied none (range 4 4) none) ∷
    []) (error_of 3 (span 4 4) (some 3 4) unquoted none 0 ∷ []) ∷
    -- B10: kinds 9 (5..6), 2 (5..5), 1 (6..7)
    bare 0 "{foo?}" (arg 0 5 (named 1 4) (span 2 5) (empty 4) ∷ [])
    (error_of 9 (span 5 6) none unquoted (some 5 6) 0 ∷ error_of 2 (span 5 5) (some 1 2) (quoted 4 5) none 0 ∷ bare_error 1 (span 6 7) 1 ∷ []) ∷
    -- B11: kind 6 twice, 3..4
    bare 0 "{:_}" (arg 0 4 (Place.Next 0) (span 2 2) (typed 2 3 (some 3 4)) ∷ []) (bare_error 6 (span 3 4) 0 ∷ bare_error 6 (span 3 4) 0 ∷ []) ∷
    -- B12: kind 1, 1..2
    bare 0 "}" [] (bare_error 1 (span 1 2) 0 ∷ []) ∷
    -- B13: type x; kinds 2 (4..4), 1 (5..6); literal 3..4
    bare 0 "{:x5}" (arg 0 3 (Place.Next 0) (span 2 2) (typed 2 3 none) ∷ lit 3 4 ∷ [])
    (error_of 2 (span 4 4) (some 1 2) (quoted 3 4) none 0 ∷ bare_error 1 (span 5 6) 2 ∷ []) ∷
    -- B14: kinds 13 (2..5), 2 (3..3)
    bare 0 "{a.b}" (arg 0 5 (named 1 2) (span 2 3) (empty 2) ∷ [])
    (bare_error 13 (span 2 5) 0 ∷ error_of 2 (span 3 3) (some 1 2) (quoted 2 3) none 0 ∷ []) ∷
    -- B15, style 0, matching snippet: lines 2..3 and 5..6
    source 0 "a\n b" "r\"a\n b\"" (lit 0 4 ∷ []) [] [] (span 2 3 ∷ span 5 6 ∷ []) ∷
    []

-- further cases: the kinds that the table leaves out, each field that a kind has, and what source literals give
abbrev pub further : List Case
further =
    -- kind 4: at the end, where spans lack the quote offset; it is put at the front, and `r#` is suggested to go
    bare 0 "{r#a" (arg 0 4 (named 3 4) (span 2 4) (empty 4) ∷ [])
    (error_of 4 (span 2 4) none unquoted (some 2 4) 0 ∷ error_of 3 (span 4 4) (some 1 2) unquoted none 0 ∷ []) ∷
    -- kind 5 comes after a plain `?`
    bare 0 "{:?x}" (arg 0 3 (Place.Next 0) (span 2 2) (typed 2 3 none) ∷ lit 3 4 ∷ [])
    (error_of 5 (span 4 5) none (quoted 3 4) (some 3 5) 0 ∷ error_of 2 (span 4 4) (some 1 2) (quoted 3 4) none 0 ∷ bare_error 1 (span 5 6) 2 ∷ []) ∷
    -- kind 8: a `?` before `:`; the word after them is quoted
    bare 0 "{a?:x}" (arg 0 5 (named 1 2) (span 2 3) (empty 2) ∷ [])
    (error_of 8 (span 3 4) none (quoted 4 5) none 0 ∷ error_of 2 (span 3 3) (some 1 2) (quoted 2 3) none 0 ∷ bare_error 1 (span 6 7) 1 ∷ []) ∷
    -- and so is an empty one, where reading stood
    bare 0 "{?:}" (arg 0 3 (Place.Next 0) (span 2 2) (empty 1) ∷ [])
    (error_of 8 (span 2 3) none (quoted 3 3) none 0 ∷ error_of 2 (span 2 2) (some 1 2) (quoted 1 2) none 0 ∷ bare_error 1 (span 4 5) 1 ∷ []) ∷
    -- kind 9 comes with a colon too
    bare 0 "{:a?}" (arg 0 4 (Place.Next 0) (span 2 2) (typed 2 3 (some 3 4)) ∷ [])
    (error_of 9 (span 4 5) none unquoted (some 4 5) 0 ∷ error_of 2 (span 4 4) (some 1 2) (quoted 3 4) none 0 ∷ bare_error 1 (span 5 6) 1 ∷ []) ∷
    -- any other `?` is passed silently
    bare 0 "{a?b}" (arg 0 3 (named 1 2) (span 2 3) (empty 2) ∷ lit 3 4 ∷ [])
    (error_of 2 (span 3 3) (some 1 2) (quoted 2 3) none 0 ∷ bare_error 1 (span 5 6) 2 ∷ []) ∷
    -- nothing follows kind 2 where one character remains, and nothing is passed
    bare 0 "{a?" (arg 0 2 (named 1 2) (span 2 3) (empty 2) ∷ lit 2 3 ∷ []) (error_of 2 (span 3 3) (some 1 2) (quoted 2 3) none 0 ∷ []) ∷
    -- kind 10
    bare 0 "{a=}" (arg 0 3 (named 1 2) (span 2 3) (empty 2) ∷ [])
    (error_of 10 (span 3 4) (some 1 2) unquoted none 0 ∷ error_of 2 (span 3 3) (some 1 2) (quoted 2 3) none 0 ∷ bare_error 1 (span 4 5) 1 ∷ []) ∷
    -- kind 11
    bare 0 "{a<}" (arg 0 3 (named 1 2) (span 2 3) (empty 2) ∷ [])
    (error_of 11 (span 3 4) none (quoted 2 3) none 0 ∷ error_of 2 (span 3 3) (some 1 2) (quoted 2 3) none 0 ∷ bare_error 1 (span 4 5) 1 ∷ []) ∷
    -- kind 12
    bare 0 "{a+}" (arg 0 3 (named 1 2) (span 2 3) (empty 2) ∷ [])
    (bare_error 12 (span 3 4) 0 ∷ error_of 2 (span 3 3) (some 1 2) (quoted 2 3) none 0 ∷ bare_error 1 (span 4 5) 1 ∷ []) ∷
    -- kind 15
    bare 0 "{a,}" (arg 0 3 (named 1 2) (span 2 3) (empty 2) ∷ [])
    (error_of 15 (span 3 4) (some 1 2) unquoted none 0 ∷ error_of 2 (span 3 3) (some 1 2) (quoted 2 3) none 0 ∷ bare_error 1 (span 4 5) 1 ∷ []) ∷
    -- kind 14
    bare 0 "{a.0}" (arg 0 5 (named 1 2) (span 2 3) (empty 2) ∷ [])
    (bare_error 14 (span 2 5) 0 ∷ error_of 2 (span 3 3) (some 1 2) (quoted 2 3) none 0 ∷ []) ∷
    -- a nameless field takes a number, and nothing is said of it
    bare 0 "{a.}{}" (arg 0 4 (named 1 2) (span 2 3) (empty 2) ∷ arg 4 6 (Place.Next 1) (span 6 6) (empty 5) ∷ [])
    (error_of 2 (span 3 3) (some 1 2) (quoted 2 3) none 0 ∷ []) ∷
    -- so does its star, before it
    bare 0 "{a.:.*}{}" (arg 0 7 (named 1 2) (span 2 3) (empty 2) ∷ arg 7 9 (Place.Next 2) (span 9 9) (empty 8) ∷ [])
    (error_of 2 (span 3 3) (some 1 2) (quoted 2 3) none 0 ∷ []) ∷
    -- kind 13 needs a spec equal to the default, and a space leaves it so
    bare 0 "{a: .b}" (arg 0 7 (named 1 2) (span 2 3) (empty 3) ∷ [])
    (bare_error 13 (span 2 7) 0 ∷ error_of 2 (span 5 5) (some 1 2) (quoted 4 5) none 0 ∷ []) ∷
    -- in InlineAsm a dot is no precision
    bare 1 "{a:.b}" (arg 0 6 (named 1 2) (span 2 3) (empty 3) ∷ [])
    (bare_error 13 (span 2 6) 0 ∷ error_of 2 (span 4 4) (some 1 2) (quoted 3 4) none 0 ∷ []) ∷
    -- in Format it is, and the word is the type
    bare 0 "{a:.b}"
    (arg 0 6 (named 1 2) (span 2 3) (spec None Align.Unknown false Count.Implied none Count.Implied (some 4 5) (range 4 5) (some 5 6)) ∷ []) [] ∷
    -- no whitespace is skipped before the `}` of a field: no kind 13
    bare 0 "{a.b:x }" (arg 0 6 (named 1 2) (span 2 3) (empty 2) ∷ lit 6 7 ∷ [])
    (error_of 2 (span 3 3) (some 1 2) (quoted 2 3) none 0 ∷ bare_error 1 (span 8 9) 2 ∷ []) ∷
    -- kinds 6 and 7 at the end, where spans lack the quote offset
    bare 0 "{_" (arg 0 2 (named 1 2) (span 2 2) (empty 2) ∷ []) (bare_error 6 (span 2 2) 0 ∷ error_of 3 (span 2 2) (some 1 2) unquoted none 0 ∷ []) ∷
    bare 0 "{65536" (arg 0 6 (Place.At Numeral.Over) (span 2 6) (empty 6) ∷ [])
    (error_of 7 (span 2 6) none (quoted 1 6) none 0 ∷ error_of 3 (span 6 6) (some 1 2) unquoted none 0 ∷ []) ∷
    -- each record has the number of the pieces before its own: at the front the last comes first with its own, and the moved keep theirs
    bare 0 "{a.b}{c.d}" (arg 0 5 (named 1 2) (span 2 3) (empty 2) ∷ arg 5 10 (named 6 7) (span 7 8) (empty 7) ∷ [])
    (bare_error 13 (span 7 10) 1 ∷
    bare_error 13 (span 2 5) 0 ∷
    error_of 2 (span 3 3) (some 1 2) (quoted 2 3) none 0 ∷
    error_of 2 (span 8 8) (some 6 7) (quoted 7 8) none 1 ∷
    []) ∷
    -- and literal text is a piece too
    bare 0 "x{_}" (lit 0 1 ∷ arg 1 4 (named 2 3) (span 3 4) (empty 3) ∷ []) (bare_error 6 (span 3 4) 1 ∷ []) ∷
    -- in Diagnostic the type's text starts after the colon, its span at the colon
    bare 2 "{a:x }" (arg 0 6 (named 1 2) (span 2 3) (typed 3 5 (some 3 6)) ∷ []) [] ∷
    -- a source literal: argument places, brace to brace
    source 0 "{}{a}" "r\"{}{a}\"" (arg 0 2 (Place.Next 0) (span 3 3) (empty 1) ∷ arg 2 5 (named 3 4) (span 5 6) (empty 4) ∷ [])
    [] (span 2 4 ∷ span 4 7 ∷ []) (span 2 7 ∷ []) ∷
    -- a placeholder that is not closed gives none
    source 0 "{a" "r\"{a\"" (arg 0 2 (named 1 2) (span 3 4) (empty 2) ∷ []) (error_of 3 (span 4 4) (some 2 3) unquoted none 0 ∷ []) []
    (span 2 4 ∷ []) ∷
    -- a stop at a lone `}` adds no last line
    source 0 "a\n}" "r\"a\n}\"" (lit 0 2 ∷ []) (bare_error 1 (span 4 5) 1 ∷ []) [] (span 2 3 ∷ []) ∷
    -- after an appended newline the last line starts past "end"
    record {
      text = bytes_of "a\n";
      snippet = bytes_of "r\"a\"";
      request = ask 0 (Some 0) true true;
      answer = done 2 (lit 0 2 ∷ []) [] [] (span 2 3 ∷ span 4 3 ∷ []);
      pieces = lit 0 2 ∷ [];
      errors = [];
      places = [];
      lines = span 2 3 ∷ span 4 3 ∷ [];
    } ∷
    []

-- numbers above 65,535, wherever a number stands: each is over range, no other number, and kind 7
abbrev pub large : List Case
large =
    -- a place: 65,536 plus 65,536 is no 0 either; zeros in front do not count; forty digits
    bare 0 "{131072}" (arg 0 8 (Place.At Numeral.Over) (span 2 8) (empty 7) ∷ []) (error_of 7 (span 2 9) none (quoted 1 7) none 0 ∷ []) ∷
    bare 0 "{0000065535}" (arg 0 12 (Place.At (Numeral.Within 65535)) (span 2 12) (empty 11) ∷ []) [] ∷
    bare 0 "{0000065536}" (arg 0 12 (Place.At Numeral.Over) (span 2 12) (empty 11) ∷ []) (error_of 7 (span 2 13) none (quoted 1 11) none 0 ∷ []) ∷
    bare 0 "{9999999999999999999999999999999999999999}" (arg 0 42 (Place.At Numeral.Over) (span 2 42) (empty 41) ∷ [])
    (error_of 7 (span 2 43) none (quoted 1 41) none 0 ∷ []) ∷
    -- a width, without its flag and with it
    bare 0 "{:65536}"
    (arg 0 8 (Place.Next 0) (span 2 2) (spec None Align.Unknown false (Count.Fixed Numeral.Over) (some 3 8) Count.Implied none (range 7 7) none) ∷ [])
    (error_of 7 (span 3 9) none (quoted 2 7) none 0 ∷ []) ∷
    bare 0 "{:65535}"
    (arg 0 8 (Place.Next 0) (span 2 2) (spec None Align.Unknown false (Count.Fixed (Numeral.Within 65535)) (some 3 8) Count.Implied none (range 7 7) none) ∷ []) [] ∷
    -- a `$` after it is taken: by argument, and the flag beside it
    bare 0 "{:65536$}"
    (arg 0 9 (Place.Next 0) (span 2 2) (spec None Align.Unknown false (Count.ByArgument Numeral.Over) (some 3 9) Count.Implied none (range 8 8) none) ∷ [])
    (error_of 7 (span 3 9) none (quoted 2 7) none 0 ∷ []) ∷
    bare 0 "{:065536$}"
    (arg 0 10 (Place.Next 0) (span 2 2) (spec None Align.Unknown true (Count.ByArgument Numeral.Over) (some 4 10) Count.Implied none (range 9 9) none) ∷ [])
    (error_of 7 (span 4 10) none (quoted 3 8) none 0 ∷ []) ∷
    -- a precision
    bare 0 "{:.65536}"
    (arg 0 9 (Place.Next 0) (span 2 2) (spec None Align.Unknown false Count.Implied none (Count.Fixed Numeral.Over) (some 3 9) (range 8 8) none) ∷ [])
    (error_of 7 (span 4 10) none (quoted 3 8) none 0 ∷ []) ∷
    bare 0 "{:.99999$}"
    (arg 0 10 (Place.Next 0) (span 2 2) (spec None Align.Unknown false Count.Implied none (Count.ByArgument Numeral.Over) (some 3 10) (range 9 9) none) ∷ [])
    (error_of 7 (span 4 10) none (quoted 3 8) none 0 ∷ []) ∷
    -- all three at once, in their order
    bare 0 "{65536:65537$.65538}"
    (arg 0 20 (Place.At Numeral.Over) (span 2 7)
    (spec None Align.Unknown false (Count.ByArgument Numeral.Over) (some 8 14) (Count.Fixed Numeral.Over) (some 14 20) (range 19 19) none) ∷
    [])
    (error_of 7 (span 2 8) none (quoted 1 6) none 0 ∷ error_of 7 (span 8 14) none (quoted 7 12) none 0 ∷ error_of 7 (span 15 21) none (quoted 14 19) none 0 ∷ []) ∷
    -- a place takes no `$`
    bare 0 "{065536$}" (arg 0 7 (Place.At Numeral.Over) (span 2 8) (empty 7) ∷ lit 7 8 ∷ [])
    (error_of 7 (span 2 9) none (quoted 1 7) none 0 ∷ error_of 2 (span 8 8) (some 1 2) (quoted 7 8) none 0 ∷ bare_error 1 (span 9 10) 2 ∷ []) ∷
    -- a tuple index: kind 7 at the back, 14 at the front
    bare 0 "{a.65536}" (arg 0 9 (named 1 2) (span 2 3) (empty 2) ∷ [])
    (bare_error 14 (span 2 9) 0 ∷ error_of 2 (span 3 3) (some 1 2) (quoted 2 3) none 0 ∷ error_of 7 (span 4 10) none (quoted 3 8) none 0 ∷ []) ∷
    -- after a number no field is read
    bare 0 "{0.65536}" (arg 0 2 (Place.At (Numeral.Within 0)) (span 2 3) (empty 2) ∷ lit 2 8 ∷ [])
    (error_of 2 (span 3 3) (some 1 2) (quoted 2 3) none 0 ∷ bare_error 1 (span 9 10) 2 ∷ []) ∷
    -- nor after one that is over range
    bare 0 "{65536.0}" (arg 0 6 (Place.At Numeral.Over) (span 2 7) (empty 6) ∷ lit 6 8 ∷ [])
    (error_of 7 (span 2 8) none (quoted 1 6) none 0 ∷ error_of 2 (span 7 7) (some 1 2) (quoted 6 7) none 0 ∷ bare_error 1 (span 9 10) 2 ∷ []) ∷
    -- in InlineAsm and in Diagnostic a place is read in the same way, and nothing of a spec is a number
    bare 1 "{65536:65536}" (arg 0 7 (Place.At Numeral.Over) (span 2 7) (empty 7) ∷ lit 7 12 ∷ [])
    (error_of 7 (span 2 8) none (quoted 1 6) none 0 ∷ error_of 2 (span 8 8) (some 1 2) (quoted 7 8) none 0 ∷ bare_error 1 (span 13 14) 2 ∷ []) ∷
    bare 2 "{65536:65536}" (arg 0 13 (Place.At Numeral.Over) (span 2 7) (typed 7 12 (some 7 13)) ∷ [])
    (error_of 7 (span 2 8) none (quoted 1 6) none 0 ∷ []) ∷
    []

-- line marks in notices: Diagnostic source literals with a newline in the text after the colon, a field's too, and in plain whitespace
abbrev pub notices : List Case
notices =
    -- a newline after the colon ends a line, and whitespace at the next one's start is cut from it
    source 2 "{:\n x}" "r\"{:\n x}\"" (arg 0 6 (Place.Next 0) (span 3 3) (typed 2 5 (some 3 7)) ∷ []) [] (span 2 8 ∷ [])
    (span 2 4 ∷ span 6 8 ∷ []) ∷
    -- so does one after the colon of a field met in recovery, closed or not
    source 2 "{a.b:\nc}" "r\"{a.b:\nc}\"" (arg 0 8 (named 1 2) (span 3 4) (empty 2) ∷ [])
    (bare_error 13 (span 3 6) 0 ∷ error_of 2 (span 4 4) (some 2 3) (quoted 2 3) none 0 ∷ []) [] (span 2 7 ∷ span 8 10 ∷ []) ∷
    source 2 "{a.:\n" "r\"{a.:\n\"" (arg 0 5 (named 1 2) (span 3 4) (empty 2) ∷ []) (error_of 2 (span 4 4) (some 2 3) (quoted 2 3) none 0 ∷ []) []
    (span 2 6 ∷ span 7 7 ∷ []) ∷
    -- a newline in a placeholder's plain whitespace ends none
    source 2 "{a\n:x}" "r\"{a\n:x}\"" (arg 0 6 (named 1 2) (span 3 5) (typed 4 5 (some 5 7)) ∷ []) [] (span 2 8 ∷ []) (span 2 8 ∷ []) ∷
    []

-- a call's answer, and the one that it is to have
pub record Asked : Type 0 where
  pub is : Answer
  pub expected : Answer

abbrev pub asked : Answer → Answer → Asked
asked x y = record { is = x; expected = y }

unfoldable pub answers : List Asked → List Answer
answers [] = []
answers (x ∷ xs) = x.is ∷ answers xs

unfoldable pub expectations : List Asked → List Answer
expectations [] = []
expectations (x ∷ xs) = x.expected ∷ expectations xs

-- each refusal, and the order of those that a call can meet together; 3 takes a text longer than a case
abbrev pub refused : List Asked
refused =
    asked (answer_of [] [] (ask 3 None true false) rooms256) (answered 1 0 none_counted 0 0) ∷
    asked (answer_of (0xFF ∷ []) [] (ask 0 None true false) rooms256) (answered 2 0 none_counted 0 0) ∷
    asked (answer_of [] [] (ask 0 (Some 256) false false) rooms256) (answered 2 0 none_counted 0 0) ∷
    asked (answer_of (0x61 ∷ 0xFF ∷ []) [] (ask 0 None false true) rooms256) (answered 4 1 none_counted 0 0) ∷
    asked (answer_of (bytes_of "a") [] (ask 0 None false true) (rooms 0 0 0 0)) (answered 5 0 none_counted 0 0) ∷
    asked (answer_of (bytes_of "{a.b}") [] (ask 0 None false false) (rooms 0 1 0 0)) (answered 6 0 (counts 1 2 0 0) 0 0) ∷
    asked (answer_of (bytes_of "{a.b}") [] (ask 0 None false false) (rooms 1 1 0 0)) (answered 7 0 (counts 1 2 0 0) 0 0) ∷
    asked (answer_of (bytes_of "{}}") (bytes_of "r\"{}}\"") (ask 0 (Some 0) true false) (rooms 1 0 0 0)) (answered 7 0 (counts 1 1 1 0) 0 0) ∷
    asked (answer_of (bytes_of "{}") (bytes_of "r\"{}\"") (ask 0 (Some 0) true false) (rooms 1 0 0 0)) (answered 8 0 (counts 1 0 1 1) 0 0) ∷
    asked (answer_of (bytes_of "{}") (bytes_of "r\"{}\"") (ask 0 (Some 0) true false) (rooms 1 0 1 0)) (answered 9 0 (counts 1 0 1 1) 0 0) ∷
    -- the first notice with room for one line: by the same count
    asked (answer_of (bytes_of "{:\n x}") (bytes_of "r\"{:\n x}\"") (ask 2 (Some 0) true false) (rooms 1 0 1 1)) (answered 9 0 (counts 1 0 1 2) 0 0) ∷
    []

-- how many arguments a text's pieces want, no style and no snippet
abbrev pub wanted : ℕ → String → ℕ
wanted mode t = let q = ask mode None false false in wants (pieces (bytes_of t) (frame_for (bytes_of t) [] q) (mode_for q))

-- how many arguments texts want, and how many they are to want, one under the other
abbrev pub texts : List ℕ
texts =
    wanted 0 "" ∷
    wanted 0 "a{{" ∷
    wanted 0 "{}" ∷
    -- a star comes before its own place
    wanted 0 "{:.*} {} {}" ∷
    -- a number that is written, before and behind those that are not
    wanted 0 "{7}{}" ∷
    wanted 0 "{}{}{1}" ∷
    wanted 0 "{65535}" ∷
    -- a width's and a precision's argument
    wanted 0 "{:1$}" ∷
    wanted 0 "{0:.5$}" ∷
    wanted 0 "{a:.*}" ∷
    -- a fixed number is no argument's, nor is a name
    wanted 0 "{:7}" ∷
    wanted 0 "{:.7}" ∷
    wanted 0 "{a}" ∷
    wanted 0 "{a:b$}" ∷
    -- over range adds nothing
    wanted 0 "{65536}" ∷
    wanted 0 "{:65536$}" ∷
    wanted 0 "{a:.65536$}" ∷
    -- a field met in recovery adds nothing, and yet takes a number
    wanted 0 "{a.}" ∷
    wanted 0 "{a.}{}" ∷
    wanted 0 "{a.7}" ∷
    wanted 0 "{a.b:.*}" ∷
    wanted 0 "{a.b:9$}" ∷
    -- nothing is read behind a lone `}`
    wanted 0 "{}}{7}" ∷
    -- in the other modes a spec has no number
    wanted 1 "{}{:x}" ∷
    wanted 2 "{:.*}" ∷
    []

abbrev pub their : List ℕ
their = 0 ∷ 0 ∷ 1 ∷ 4 ∷ 8 ∷ 2 ∷ 65536 ∷ 2 ∷ 6 ∷ 1 ∷ 1 ∷ 1 ∷ 0 ∷ 0 ∷ 0 ∷ 1 ∷ 0 ∷ 0 ∷ 2 ∷ 0 ∷ 0 ∷ 0 ∷ 1 ∷ 2 ∷ 1 ∷ []

-- how many characters are passed, no style and no snippet
abbrev pub passed : ℕ → List ℕ → ℕ
passed mode t = moves_of t [] (ask mode None false false)

-- the moves of texts, and how many they are to be, one under the other
abbrev pub readings : List ℕ
readings =
    passed 0 (bytes_of "") ∷
    passed 0 (bytes_of "a{{b") ∷
    passed 0 (bytes_of "{}") ∷
    -- a lone `}` is passed, and nothing behind it
    passed 0 (bytes_of "}") ∷
    passed 0 (bytes_of "a}b") ∷
    -- characters, not bytes: ø, and `{:ø}`, whose type is read twice
    passed 0 (0xC3 ∷ 0xB8 ∷ []) ∷
    passed 0 (0x7B ∷ 0x3A ∷ 0xC3 ∷ 0xB8 ∷ 0x7D ∷ []) ∷
    -- a word that is read for a width, and given back: closed or not, `_`, and before a `?`
    passed 0 (bytes_of "{:aaa}") ∷
    passed 0 (bytes_of "{:aaaa") ∷
    passed 0 (bytes_of "{:_}") ∷
    passed 0 (bytes_of "{:x?}") ∷
    -- the type ends at the `x`, and the rest of the word is read a second time as a literal
    passed 0 (bytes_of "{:xaaaa}") ∷
    -- behind a dot, and behind a `0`
    passed 0 (bytes_of "{:.aa}") ∷
    passed 0 (bytes_of "{:0aa}") ∷
    -- with a `$`, behind a number and behind a star none is given back, and a sign is no word
    passed 0 (bytes_of "{:aa$}") ∷
    passed 0 (bytes_of "{:aa$b}") ∷
    passed 0 (bytes_of "{:5aa}") ∷
    passed 0 (bytes_of "{:.*aa}") ∷
    passed 0 (bytes_of "{:?}") ∷
    -- a place is read once, and so is a field met in recovery, but for what its own count gives back
    passed 0 (bytes_of "{aaa}") ∷
    passed 0 (bytes_of "{a.b}") ∷
    passed 0 (bytes_of "{a.b:cc}") ∷
    -- in the other modes nothing is read twice
    passed 1 (bytes_of "{:aaa}") ∷
    passed 2 (bytes_of "{:aaa}") ∷
    []

abbrev pub strides : List ℕ
strides = 0 ∷ 4 ∷ 2 ∷ 1 ∷ 2 ∷ 1 ∷ 5 ∷ 9 ∷ 10 ∷ 5 ∷ 6 ∷ 13 ∷ 8 ∷ 8 ∷ 6 ∷ 7 ∷ 6 ∷ 7 ∷ 4 ∷ 5 ∷ 5 ∷ 10 ∷ 6 ∷ 6 ∷ []

-- what a table shows: answers, numbers or whole cases
pub data Shown : Type 0 where
  answer : Answer → Shown
  number : ℕ → Shown
  case : Case → Shown

unfoldable pub answers_of : List Answer → List Shown
answers_of [] = []
answers_of (x ∷ xs) = Shown.answer x ∷ answers_of xs

unfoldable pub numbers_of : List ℕ → List Shown
numbers_of [] = []
numbers_of (n ∷ ns) = Shown.number n ∷ numbers_of ns

unfoldable pub cases_of : List Case → List Shown
cases_of [] = []
cases_of (c ∷ cs) = Shown.case c ∷ cases_of cs

-- THE BENCH: each case is what the definitions give for its call. All tables are one list, since the first case that is false ends the check; the short
-- tables on which most rests come first.
pub bench :
    answers_of (answers refused)
    ++ cases_of (all_given notices)
    ++ numbers_of texts
    ++ numbers_of readings
    ++ cases_of (all_given large)
    ++ cases_of (all_given table)
    ++ cases_of (all_given further)
    ≡ answers_of (expectations refused)
    ++ cases_of notices
    ++ numbers_of their
    ++ numbers_of strides
    ++ cases_of large
    ++ cases_of table
    ++ cases_of further
unfolding
    answers_of numbers_of cases_of all_given bytes_of answers expectations pick within member start continue space is_space is_start is_continue low high sequence_of char_of sequence_at decode peek_at
    valid valid_prefix chars_at chars_from take_while bytes run_end frame_of body hash_marks opening closing raw_literal same is_literal end_of
    to_snippet start_of span_between is_at past_at consumed spaces_past is_plain text_end ends.end_of ends.span_across word_end is_underscore word_read
    is_digit decimal numeral digits_at number_from number_read is_empty number_count name_count count_read is_r raw_place word_place place_read is_align
    fill_read align_read sign_read plain_width width_read after_dot precision_read hex_type is_hex_or_hash debug_type word_type type_read format_read
    diagnostic_type spec_read argument_read no_marks no_counts is_default is_identifier gap_at field_read recover_read
    missing_read placeholder_read larger argument_wants wants after_open after_close step_at steps_from reading argument_slots missing_slots closing_slots step_slots wrong
    faults_of marked record_of before chars_in newlines cut line_after ended_lines line_start gather pieces front_only back_only reversed listed records
    findings found errors places literal_chars to_the_end same_span is_last lines_in lines counts_of is_long is_broken ends_in_newline lacks_newline mode_of
    frame_for first_of answer_by answer_of brace_at moves_in moves
bench = refl
