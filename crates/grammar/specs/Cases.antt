-- Worked cases, judged by the definitions alone: elements that are a reading of a text and such as are none, the pieces of elements with every
-- span, and covers. No parser and no law is used, so a definition that is changed is refuted here. Rests on Grammar, Pieces and Cover.
use Rattle.std.specs.Prelude.{◌≡◌, refl, Bool, true, false, List, [], ◌∷◌, ℕ, Option, Some, None}
use Rattle.std.proofs.Common.{inl, inr, ⊎_elim, arith}
use Rattle.std.proofs.lemmas.Bool.{false≢true}
use Rattle.utf8.specs.Choice.{pick, within}
use Rattle.utf8.specs.Encode.{encode}
use Rattle.letters.specs.Questions.{is_space, is_start}
use Rattle.letters.specs.Space.{space}
use Rattle.letters.specs.Start.{start}
use Rattle.letters.specs.Table.{member}
use Rattle.frame.specs.Places.{snippet, span_of}
use Rattle.frame.specs.declared.Span.{Span}
use Rattle.frame.specs.declared.TextRange.{TextRange}
use Rattle.scan.specs.declared.Count.{Count}
use Rattle.scan.specs.declared.Numeral.{Numeral}
use Rattle.placeholder.specs.declared.Align.{Align}
use Rattle.placeholder.specs.declared.Fill.{Fill}
use Rattle.placeholder.specs.declared.Hex.{Hex}
use Rattle.frame.specs.declared.Mode.{Mode}
use Rattle.placeholder.specs.declared.Place.{Place}
use Rattle.placeholder.specs.declared.Sign.{Sign}
use Rattle.placeholder.specs.declared.Spec.{Spec}
use Rattle.reading.specs.declared.ErrorRecord.{ErrorRecord}
use Rattle.reading.specs.declared.Piece.{Piece}
use Rattle.grammar.specs.Grammar.{Plain, NextBrace, Position, next, number, word, Alignment, left, right, center, align_char, Lead, unaligned, filled, unsigned, Width, implied, fixed, by_argument, by_name, Precision, undotted, star, dot, lower, Typing, untyped, hex_debug, typed, format_spec, modifier, free_text, Tail, bare, colon, Element, run, opened, closed, placeholder, utf8, Reading}
use Rattle.grammar.specs.Pieces.{wide, size, bytes, format_at, argument_at, pieces_of}
use Rattle.grammar.specs.Cover.{Tiles, Lone, Covered}
use Rattle.placeholder.specs.Filling.{filling}

-- a placeholder of a place, whitespace after it, and what follows
abbrev pub held : Position → List ℕ → Tail → Element
held p w y = placeholder (record { position = p; space = w; tail = y })

-- a Format spec of a lead, the flag `0`, a width, a precision and a type
abbrev pub format : Lead → Bool → Width → Precision → Typing → Tail
format l z w p k = colon (format_spec (record { lead = l; sign = unsigned; alternate = false; zero = z; width = w; precision = p; typing = k })) []

-- READINGS
-- `{65535}` is a number
largest : Reading Mode.Format (0x7B ∷ 0x36 ∷ 0x35 ∷ 0x35 ∷ 0x33 ∷ 0x35 ∷ 0x7D ∷ []) (held (number 0x36 (0x35 ∷ 0x35 ∷ 0x33 ∷ 0x35 ∷ [])) [] bare ∷ [])
unfolding utf8 encode pick
largest =
    record {
      fits =
          (record { position = record { first = omega arith; others = (omega arith, (omega arith, (omega arith, (omega arith, tt)))); small = omega arith }; space = tt; tail = tt }, tt);
      spelled = refl;
    }

-- InlineAsm, `{0:b }`: whitespace stands after the spec
spaced : Reading Mode.InlineAsm (0x7B ∷ 0x30 ∷ 0x3A ∷ 0x62 ∷ 0x20 ∷ 0x7D ∷ []) (held (number 0x30 []) [] (colon (modifier 0x62 []) (0x20 ∷ [])) ∷ [])
unfolding utf8 encode pick is_space is_start space start member within
spaced =
    record {
      fits = (
        record {
          position = record { first = omega arith; others = tt; small = omega arith };
          space = tt;
          tail = (record { first = refl; others = tt; named = λ e. let z : ◌≡◌ {A = ℕ} 0x62 0x5F = cc in omega arith }, (refl, tt));
        },
        tt,
      );
      spelled = refl;
    }

-- no align is a `$`
no_side : (a : Alignment) → 0x24 ≡ align_char a → ⊥
no_side left e = omega arith
no_side right e = omega arith
no_side center e = omega arith

-- `{:0$}`: `0$` is the width
dollar : Reading Mode.Format (0x7B ∷ 0x3A ∷ 0x30 ∷ 0x24 ∷ 0x7D ∷ []) (held next [] (format unaligned false (by_argument 0x30 []) undotted untyped) ∷ [])
unfolding utf8 encode pick
dollar =
    record {
      fits = (
        record {
          position = tt;
          space = tt;
          tail = (
            record {
              choice1 = λ c a u e. absurd (no_side a (cc));
              choice2 = λ u e n. absurd (n (0x7D ∷ []) (cc));
              choice2$ = λ v e. refl;
              width = record { first = omega arith; others = tt; small = omega arith };
              precision = tt;
              typing = tt;
            },
            tt,
          );
        },
        tt,
      );
      spelled = refl;
    }

-- NO READINGS
no_brace : (c : ℕ) (t : List ℕ) → NextBrace (c ∷ t) → (c ≡ 0x7B → ⊥) → (c ≡ 0x7D → ⊥) → ⊥
no_brace c t h a b = ⊎_elim a b h

-- `ab` is not cut, nor is `{{a`, nor Diagnostic's `{:a }`
cut : ¬ Reading Mode.Format (0x61 ∷ 0x62 ∷ []) (run 0x61 [] ∷ run 0x62 [] ∷ [])
cut r = no_brace 0x62 [] r.fits.0.2 (λ e. omega arith) (λ e. omega arith)

cut_doubled : ¬ Reading Mode.Format (0x7B ∷ 0x7B ∷ 0x61 ∷ []) (opened [] ∷ run 0x61 [] ∷ [])
cut_doubled r = no_brace 0x61 [] r.fits.0.1 (λ e. omega arith) (λ e. omega arith)

cut_text : ¬ Reading Mode.Diagnostic (0x7B ∷ 0x3A ∷ 0x61 ∷ 0x20 ∷ 0x7D ∷ []) (held next [] (colon (free_text (0x61 ∷ [])) (0x20 ∷ [])) ∷ [])
cut_text r = no_brace 0x20 (0x7D ∷ []) r.fits.0.tail.0.1 (λ e. omega arith) (λ e. omega arith)

-- `:` is no digit, 65,536 no number of the grammar, `_` no word, and `xy` no type
no_digit : ¬ Reading Mode.Format (0x7B ∷ 0x3A ∷ 0x7D ∷ []) (held (number 0x3A []) [] bare ∷ [])
no_digit r = let h = r.fits.0.position.first.1 in omega arith

too_large_lem : ¬ Reading Mode.Format (0x7B ∷ 0x36 ∷ 0x35 ∷ 0x35 ∷ 0x33 ∷ 0x36 ∷ 0x7D ∷ []) (held (number 0x36 (0x35 ∷ 0x35 ∷ 0x33 ∷ 0x36 ∷ [])) [] bare ∷ [])
too_large_lem r = let h = r.fits.0.position.small in omega arith

no_word : ¬ Reading Mode.Format (0x7B ∷ 0x5F ∷ 0x7D ∷ []) (held (word 0x5F []) [] bare ∷ [])
no_word r = r.fits.0.position.named refl

no_type : ¬ Reading Mode.Format (0x7B ∷ 0x3A ∷ 0x78 ∷ 0x79 ∷ 0x7D ∷ []) (held next [] (format unaligned false implied undotted (typed 0x78 (0x79 ∷ []))) ∷ [])
no_type r = r.fits.0.tail.0.typing.1 lower refl

-- choice 1: `{:}>}}` is not `{:}`, `>` and `}}`, for its `}` is a fill
not_closed : ¬ Reading Mode.Format (0x7B ∷ 0x3A ∷ 0x7D ∷ 0x3E ∷ 0x7D ∷ 0x7D ∷ []) (held next [] (format unaligned false implied undotted untyped) ∷ run 0x3E [] ∷ closed [] ∷ [])
not_closed r =
    let e : unaligned ≡ filled 0x7D right = r.fits.0.tail.0.choice1 0x7D right (0x7D ∷ 0x7D ∷ []) refl in
    let z : ◌≡◌ {A = ℕ} 0 1 = cc in
    omega arith

-- choice 2: the `0` of `{:05}` is the flag, not a digit of the width
not_width : ¬ Reading Mode.Format (0x7B ∷ 0x3A ∷ 0x30 ∷ 0x35 ∷ 0x7D ∷ []) (held next [] (format unaligned false (fixed 0x30 (0x35 ∷ [])) undotted untyped) ∷ [])
not_width r = false≢true (r.fits.0.tail.0.choice2 (0x35 ∷ 0x7D ∷ []) refl (λ v e. let z : ◌≡◌ {A = ℕ} 0x35 0x24 = cc in omega arith))

-- PIECES, every field written out
abbrev span : ℕ → ℕ → Span
span a b = span_of (snippet a) (snippet b)

abbrev at : ℕ → ℕ → Option Span
at a b = Some (span a b)

-- a spec with neither sign nor `#`: fill, align, `0`; width; precision; type
abbrev spec : Option Fill → Align → Bool → Count → Option Span → Count → Option Span → Hex → TextRange → Option Span → Spec
spec fi al z w ws p ps h r rs =
    record {
      fill = fi;
      align = al;
      sign = Sign.Absent;
      alternate = false;
      zero = z;
      hex = h;
      width = w;
      widthspan = ws;
      precision = p;
      precisionspan = ps;
      typetext = r;
      typespan = rs;
    }

-- a type's text and span alone
abbrev bare_spec : TextRange → Option Span → Spec
bare_spec r rs = spec None Align.Unknown false Count.Implied None Count.Implied None Hex.Absent r rs

abbrev argument : Place → Span → Spec → TextRange → Piece
argument p s x r = Piece.Placeholder (record { place = p; placespan = s; spec = x; range = r })

-- `{{a`; `{:.*}{}`; `{:0$}`: B2, B4 and B5 of document 01's bench, no style
doubled : pieces_of 1 0 0 (opened (0x61 ∷ []) ∷ []) ≡ Piece.Literal (bytes 1 3) ∷ []
unfolding pieces_of size wide encode pick
doubled = refl

starred : pieces_of 1 0 0 (held next [] (format unaligned false implied star untyped) ∷ held next [] bare ∷ []) ≡
    argument (Place.Next 1) (span 2 2) (spec None Align.Unknown false Count.Implied None (Count.ByStar 0) (at 3 5) Hex.Absent (bytes 4 4) None) (bytes 0 5)
    ∷ argument (Place.Next 2) (span 7 7) (bare_spec (bytes 6 6) None) (bytes 5 7)
    ∷ []
unfolding pieces_of argument_at format_at size wide encode pick
starred = refl

by_dollar : pieces_of 1 0 0 (held next [] (format unaligned false (by_argument 0x30 []) undotted untyped) ∷ []) ≡
    argument (Place.Next 0) (span 2 2) (spec None Align.Unknown false (Count.ByArgument (Numeral.Within 0)) (at 3 5) Count.Implied None Hex.Absent (bytes 4 4) None) (bytes 0 5)
    ∷ []
unfolding pieces_of argument_at format_at size wide encode pick
by_dollar = refl

-- `é{a :é<07.b$x?}`, a raw string of one hash: bytes and characters differ, and the quote offset is 3
all_parts : pieces_of 3 0 0 (run 0xE9 [] ∷ held (word 0x61 []) (0x20 ∷ []) (format (filled 0xE9 left) true (fixed 0x37 []) (dot (by_name 0x62 [])) (hex_debug lower)) ∷ []) ≡
    Piece.Literal (bytes 0 2)
    ∷ argument (Place.Named (bytes 3 4)) (span 6 8)
    (spec (filling 0xE9 (span 9 11)) Align.Left true (Count.Fixed (Numeral.Within 7)) (at 13 14) (Count.ByName (bytes 12 13) (span 15 16)) (at 14 17) Hex.Lower (bytes 15 16) None)
    (bytes 2 17)
    ∷ []
unfolding pieces_of argument_at format_at size wide encode pick
all_parts = refl

-- Format's `{:ab}`, InlineAsm's `{0:b }` and Diagnostic's `{: b }`: a type's text and span
typed_text : pieces_of 1 0 0 (held next [] (format unaligned false implied undotted (typed 0x61 (0x62 ∷ []))) ∷ []) ≡
    argument (Place.Next 0) (span 2 2) (bare_spec (bytes 2 4) (at 3 5)) (bytes 0 5) ∷ []
unfolding pieces_of argument_at format_at size wide encode pick
typed_text = refl

modified : pieces_of 1 0 0 (held (number 0x30 []) [] (colon (modifier 0x62 []) (0x20 ∷ [])) ∷ []) ≡
    argument (Place.At (Numeral.Within 0)) (span 2 3) (bare_spec (bytes 3 4) (at 4 5)) (bytes 0 6) ∷ []
unfolding pieces_of argument_at size wide encode pick
modified = refl

diagnosed : pieces_of 1 0 0 (held next [] (colon (free_text (0x20 ∷ 0x62 ∷ 0x20 ∷ [])) []) ∷ []) ≡
    argument (Place.Next 0) (span 2 2) (bare_spec (bytes 2 5) (at 2 6)) (bytes 0 6) ∷ []
unfolding pieces_of argument_at size wide encode pick
diagnosed = refl

-- COVERS
no_mark : (c : ℕ) → (c ≡ 0x7B → ⊥) → (c ≡ 0x7D → ⊥) → Plain c
no_mark c a b = ⊎_elim a b

-- `{{a`: the first brace is dropped, and the view is the rest
dropped : Tiles (0x7B ∷ 0x7B ∷ 0x61 ∷ []) 0 (Piece.Literal (bytes 1 3) ∷ []) 3
dropped = (
  record {
    begins = inr (refl, (inl refl, refl));
    some = omega arith;
    plain = λ i a b. let e : i ≡ 2 = omega arith in rw e (no_mark 0x61 (λ z. omega arith) (λ z. omega arith));
    ends = inl refl;
  },
  refl,
)

-- two views do not cover `ab`, for the first goes to the end; no argument covers `a`
not_two : ¬ Tiles (0x61 ∷ 0x62 ∷ []) 0 (Piece.Literal (bytes 0 1) ∷ Piece.Literal (bytes 1 2) ∷ []) 2
not_two h = ⊎_elim (λ e. omega arith) (no_mark 0x62 (λ z. omega arith) (λ z. omega arith)) h.0.ends

not_held : ¬ Tiles (0x61 ∷ []) 0 (argument (Place.Next 0) (span 1 1) (bare_spec (bytes 0 0) None) (bytes 0 1) ∷ []) 1
not_held h = let e = h.0.brace in omega arith

-- `}`: a stop at a lone `}` that is told, and not one that is not
abbrev lone : ErrorRecord
lone = record { kind = 1; span = span 1 2; second = None; quoted = None; suggestion = None; piece = 0 }

is_lone : Lone (0x7D ∷ []) 0
is_lone = (refl, λ e. omega arith)

told : Covered (0x7D ∷ []) [] (lone ∷ [])
told = record { stop = 0; tiles = refl; stops = inr is_lone; told = (λ r. is_lone, λ l. inl refl) }

not_told : ¬ Covered (0x7D ∷ []) [] []
not_told h = h.told.1 (rw (← h.tiles) is_lone)
