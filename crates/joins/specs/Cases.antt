-- Worked joins, every field of every record: texts, their pieces and the joined text's, held to the join and to the reader's definitions, each by
-- computing; and the premise, inside and outside. Rests on Joins and on the reader's definitions, on no law.
use Rattle.std.specs.Prelude.{◌≡◌, refl, false, List, [], ◌∷◌, ◌++◌, map, ℕ, ◌+◌, Option, Some, None}
use Rattle.std.proofs.Common.{inl, inr, ⊎_elim, true≢false, arith}
use Rattle.utf8.specs.Choice.{pick, within}
use Rattle.utf8.specs.Utf8.{low, high, sequence_of, char_of, sequence_at, decode, peek_at}
use Rattle.utf8.specs.Chars.{chars_at, chars_from, take_while, bytes, run_end}
use Rattle.letters.specs.Table.{member}
use Rattle.letters.specs.Start.{start}
use Rattle.letters.specs.Continue.{continue}
use Rattle.letters.specs.Space.{space}
use Rattle.letters.specs.Questions.{is_space, is_start, is_continue}
use Rattle.frame.specs.Frames.{frame_of, body, is_literal, end_of}
use Rattle.frame.specs.Spans.{to_snippet, start_of, span_between}
use Rattle.frame.specs.declared.Mode.{Mode}
use Rattle.scan.specs.Characters.{is_at, past_at, consumed, spaces_past, is_plain, text_end}
use Rattle.scan.specs.Ends as ends
use Rattle.scan.specs.Words.{word_end, is_underscore, word_read, is_digit, decimal, numeral, digits_at, number_from, number_read}
use Rattle.scan.specs.Counts.{is_empty, number_count, name_count, count_read}
use Rattle.scan.specs.declared.Count.{Count}
use Rattle.scan.specs.declared.Numeral.{Numeral}
use Rattle.placeholder.specs.Places.{is_r, raw_place, word_place, place_read}
use Rattle.placeholder.specs.Parts.{is_align, fill_read, align_read, sign_read, plain_width, width_read, after_dot, precision_read}
use Rattle.placeholder.specs.Filling.{filling}
use Rattle.placeholder.specs.Types.{hex_type, is_hex_or_hash, debug_type, word_type, type_read}
use Rattle.placeholder.specs.Format.{format_read}
use Rattle.placeholder.specs.Specs.{diagnostic_type, spec_read}
use Rattle.placeholder.specs.Arguments.{argument_read}
use Rattle.placeholder.specs.declared.Align.{Align}
use Rattle.placeholder.specs.declared.Fill.{Fill}
use Rattle.placeholder.specs.declared.Place.{Place}
use Rattle.closing.specs.Defaults.{no_marks, no_counts, is_default, is_identifier}
use Rattle.closing.specs.Recovery.{gap_at, field_read, recover_read}
use Rattle.closing.specs.Wholes.{missing_read, placeholder_read}
use Rattle.reading.specs.Steps.{after_open, after_close, step_at, steps_from, reading}
use Rattle.reading.specs.Faults.{argument_slots, missing_slots, closing_slots, step_slots, wrong, faults_of, marked}
use Rattle.reading.specs.Records.{record_of}
use Rattle.reading.specs.Lists.{gather, pieces, front_only, back_only, reversed, listed, records, findings, found, errors}
use Rattle.reading.specs.Cases.{bytes_of, span, some, none, range, lit, arg, named, spec, typed, empty}
use Rattle.reading.specs.declared.ErrorRecord.{ErrorRecord}
use Rattle.reading.specs.declared.Piece.{Piece}
use Rattle.joins.specs.Joins.{number_of_both, is_doubled, meet, join, text_all, join_all, StartsWithAlign, Premise}

pub record Pair : Type 0 where
  pub mode : Mode
  pub style : Option ℕ
  pub first : List ℕ
  pub second : List ℕ
  pub ps : List Piece
  pub qs : List Piece
  pub rs : List Piece

-- a text's pieces and errors, with no snippet
abbrev pieces_in : Mode → Option ℕ → List ℕ → List Piece
pieces_in m y t = pieces t (frame_of t y false [] false) m

abbrev errors_in : Mode → Option ℕ → List ℕ → List ErrorRecord
errors_in m y t = errors t (frame_of t y false [] false) m

-- what the reader's definitions give, in a pair's place
abbrev read : Pair → Pair
read p =
    record {
      mode = p.mode;
      style = p.style;
      first = p.first;
      second = p.second;
      ps = pieces_in p.mode p.style p.first;
      qs = pieces_in p.mode p.style p.second;
      rs = pieces_in p.mode p.style (p.first ++ p.second);
    }

abbrev wrongs : Pair → List ErrorRecord
wrongs p =
    errors_in p.mode p.style p.first ++ errors_in p.mode p.style p.second ++ errors_in p.mode p.style (p.first ++ p.second)

-- a Format pair with no style
abbrev plain : List ℕ → List ℕ → List Piece → List Piece → List Piece → Pair
plain t u ps qs rs = record { mode = Mode.Format; style = None; first = t; second = u; ps = ps; qs = qs; rs = rs }

-- `{:.*}` at byte a: its star's number and its place's
abbrev starred : ℕ → ℕ → ℕ → Piece
starred a i n =
    arg a (a + 5) (Place.Next n) (span (a + 2) (a + 2))
    (spec None Align.Unknown false Count.Implied none (Count.ByStar i) (some (a + 3) (a + 5)) (range (a + 4) (a + 4)) none)

-- `{}` at byte a, and its number
abbrev implicit : ℕ → ℕ → Piece
implicit a n = arg a (a + 2) (Place.Next n) (span (a + 2) (a + 2)) (empty (a + 1))

-- `{n:c>w$}` at byte a
abbrev full : ℕ → Piece
full a =
    arg a (a + 8) (named (a + 1) (a + 2)) (span (a + 2) (a + 3))
    (spec (filling 0x63 (span (a + 4) (a + 5))) Align.Right false (Count.ByName (range (a + 5) (a + 6)) (span (a + 6) (a + 7))) (some (a + 6) (a + 8)) Count.Implied none (range (a + 7) (a + 7)) none)

abbrev pub table : List Pair
table =
    -- implicit places and stars are raised by three, and all is moved by seven
    plain (bytes_of "{:.*}{}") (bytes_of "a{:.*}") (starred 0 0 1 ∷ implicit 5 2 ∷ []) (lit 0 1 ∷ starred 1 0 1 ∷ [])
    (starred 0 0 1 ∷ implicit 5 2 ∷ lit 7 8 ∷ starred 8 3 4 ∷ []) ∷
    -- two literals become one; a name, a fill and a width by name are moved
    plain (bytes_of "a") (bytes_of "b{n:c>w$}") (lit 0 1 ∷ []) (lit 0 1 ∷ full 1 ∷ []) (lit 0 2 ∷ full 2 ∷ []) ∷
    -- a doubled brace starts the second: two literals
    plain (bytes_of "a") (bytes_of "{{b") (lit 0 1 ∷ []) (lit 1 3 ∷ []) (lit 0 1 ∷ lit 2 4 ∷ []) ∷
    plain (bytes_of "}}") (bytes_of "}}") (lit 1 2 ∷ []) (lit 1 2 ∷ []) (lit 1 2 ∷ lit 3 4 ∷ []) ∷
    -- it starts the first: one
    plain (bytes_of "{{") (bytes_of "a") (lit 1 2 ∷ []) (lit 0 1 ∷ []) (lit 1 3 ∷ []) ∷
    -- an empty text on either side
    plain (bytes_of "") (bytes_of "{}") [] (implicit 0 0 ∷ []) (implicit 0 0 ∷ []) ∷
    plain (bytes_of "{}") (bytes_of "") (implicit 0 0 ∷ []) [] (implicit 0 0 ∷ []) ∷
    -- `:}` and no align; an align and no `:}`
    plain (bytes_of "{:}") (bytes_of "a") (arg 0 3 (Place.Next 0) (span 2 2) (empty 2) ∷ []) (lit 0 1 ∷ [])
    (arg 0 3 (Place.Next 0) (span 2 2) (empty 2) ∷ lit 3 4 ∷ []) ∷
    plain (bytes_of "{}") (bytes_of "<") (implicit 0 0 ∷ []) (lit 0 1 ∷ []) (implicit 0 0 ∷ lit 2 3 ∷ []) ∷
    -- InlineAsm, a raw string of one hash, and Diagnostic: `:}` and an align
    record {
      mode = Mode.InlineAsm;
      style = Some 1;
      first = bytes_of "{:}";
      second = bytes_of "<{0:b}";
      ps = arg 0 3 (Place.Next 0) (span 4 4) (empty 2) ∷ [];
      qs = lit 0 1 ∷ arg 1 6 (Place.At (Numeral.Within 0)) (span 5 6) (typed 4 5 (some 7 8)) ∷ [];
      rs = arg 0 3 (Place.Next 0) (span 4 4) (empty 2) ∷ lit 3 4 ∷ arg 4 9 (Place.At (Numeral.Within 0)) (span 8 9) (typed 7 8 (some 10 11)) ∷ [];
    } ∷
    record {
      mode = Mode.Diagnostic;
      style = None;
      first = bytes_of "{:}";
      second = bytes_of "^{:a}";
      ps = arg 0 3 (Place.Next 0) (span 2 2) (typed 2 2 (some 2 3)) ∷ [];
      qs = lit 0 1 ∷ arg 1 5 (Place.Next 0) (span 3 3) (typed 3 4 (some 3 5)) ∷ [];
      rs = arg 0 3 (Place.Next 0) (span 2 2) (typed 2 2 (some 2 3)) ∷ lit 3 4 ∷ arg 4 8 (Place.Next 1) (span 6 6) (typed 6 7 (some 6 8)) ∷ [];
    } ∷
    []

-- the join gives the third list
pub joins : map (λ p. join p.first p.second p.ps p.qs) table ≡ map (λ p. p.rs) table
unfolding bytes_of is_doubled number_of_both meet pick
joins = refl

-- `{:}` and an align: outside the premise
abbrev aligns : List (List ℕ)
aligns = bytes_of "<" ∷ bytes_of ">" ∷ bytes_of "^" ∷ []

abbrev kinds_in : List ℕ → List ℕ
kinds_in t = map (λ x. x.kind) (errors_in Mode.Format None t)

-- By the reader's definitions:
pub reads :
    -- the table's three lists, and no error
    (map read table ≡ table) × (map wrongs table ≡ map (λ p. []) table) ×
    -- a heading `{}`, a body `a{:.*}` and a footer `b{}`
    (join_all (pieces_in Mode.Format None) (bytes_of "{}") (implicit 0 0 ∷ []) (bytes_of "a{:.*}" ∷ bytes_of "b{}" ∷ []) ≡
    implicit 0 0 ∷ lit 2 3 ∷ starred 3 1 2 ∷ lit 8 9 ∷ implicit 9 3 ∷ []) ×
    (pieces_in Mode.Format None (text_all (bytes_of "{}") (bytes_of "a{:.*}" ∷ bytes_of "b{}" ∷ [])) ≡
    implicit 0 0 ∷ lit 2 3 ∷ starred 3 1 2 ∷ lit 8 9 ∷ implicit 9 3 ∷ []) ×
    -- outside the premise each text is without error, and the joined one is not: its brace is a fill, and none closes
    (kinds_in (bytes_of "{:}") ≡ []) × (map kinds_in aligns ≡ [] ∷ [] ∷ [] ∷ []) ×
    (map (λ u. kinds_in (bytes_of "{:}" ++ u)) aligns ≡ (3 ∷ []) ∷ (3 ∷ []) ∷ (3 ∷ []) ∷ [])
unfolding
    is_doubled number_of_both meet
    bytes_of pick within member start continue space is_space is_start is_continue low high sequence_of char_of sequence_at decode peek_at chars_at
    chars_from take_while bytes run_end frame_of body is_literal end_of to_snippet start_of span_between is_at past_at consumed spaces_past is_plain text_end
    ends.end_of ends.span_across word_end is_underscore word_read is_digit decimal numeral digits_at number_from number_read is_empty number_count name_count
    count_read is_r raw_place word_place place_read is_align fill_read align_read sign_read plain_width width_read after_dot precision_read hex_type
    is_hex_or_hash debug_type word_type type_read format_read diagnostic_type spec_read argument_read no_marks no_counts is_default is_identifier gap_at
    field_read recover_read missing_read placeholder_read after_open after_close step_at steps_from reading argument_slots
    missing_slots closing_slots step_slots wrong faults_of marked record_of gather pieces front_only back_only reversed listed records findings found errors
reads = (refl, refl, refl, refl, refl, refl, refl)

-- OUTSIDE THE PREMISE: `{:}` with `<`, `>` or `^`
outside : (u : List ℕ) → StartsWithAlign u → ¬ Premise Mode.Format (0x7B ∷ 0x3A ∷ 0x7D ∷ []) u
outside u s p = ⊎_elim (λ n. n (0x7B ∷ [], refl)) (λ n. n s) p

pub left_outside : ¬ Premise Mode.Format (0x7B ∷ 0x3A ∷ 0x7D ∷ []) (0x3C ∷ [])
left_outside = outside (0x3C ∷ []) (inl refl)

pub right_outside : ¬ Premise Mode.Format (0x7B ∷ 0x3A ∷ 0x7D ∷ []) (0x3E ∷ [])
right_outside = outside (0x3E ∷ []) (inr (inl refl))

pub center_outside : ¬ Premise Mode.Format (0x7B ∷ 0x3A ∷ 0x7D ∷ []) (0x5E ∷ [])
center_outside = outside (0x5E ∷ []) (inr (inr refl))

-- INSIDE IT: `{:}` and `a`, `{}` and `<`; in the other modes `{:}` and `<` too
no_align_lem : ¬ StartsWithAlign (0x61 ∷ [])
no_align_lem s = ⊎_elim (λ e. omega arith) (λ r. ⊎_elim (λ e. omega arith) (λ e. omega arith) r) s

no_colon : (v : List ℕ) → 0x7B ∷ 0x7D ∷ [] ≡ v ++ (0x3A ∷ 0x7D ∷ []) → ⊥
no_colon [] e = let z : ◌≡◌ {A = ℕ} 0x7B 0x3A = cc in omega arith
no_colon (c ∷ []) e = let z : ◌≡◌ {A = ℕ} 0x7D 0x3A = cc in omega arith
no_colon (c ∷ d ∷ []) e = absurd (true≢false (cc))
no_colon (c ∷ d ∷ b ∷ v) e = absurd (true≢false (cc))

pub inside : Premise Mode.Format (0x7B ∷ 0x3A ∷ 0x7D ∷ []) (0x61 ∷ []) × Premise Mode.Format (0x7B ∷ 0x7D ∷ []) (0x3C ∷ []) ×
    Premise Mode.InlineAsm (0x7B ∷ 0x3A ∷ 0x7D ∷ []) (0x3C ∷ []) × Premise Mode.Diagnostic (0x7B ∷ 0x3A ∷ 0x7D ∷ []) (0x3C ∷ [])
inside = (inr no_align_lem, inl (λ k. no_colon k.0 k.1), tt, tt)
