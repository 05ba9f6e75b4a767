-- What the pieces of elements say, from the elements alone: where their codes stand in the text, each range has the bytes of its own.
-- Rests on Said, and on grammar's Pieces and unique's Splits.
use Rattle.std.specs.Prelude.{◌≡◌, false, ℕ, ◌+◌, ◌-◌, ◌<◌, length, drop}
use Rattle.std.proofs.Math.Path.{refl, ap}
use Rattle.std.proofs.Common.{◌∙◌, drop-drop}
use mathlib.Core.List.{List, [], ◌∷◌, ◌++◌, append-nil}
use native.Mathlib.Omega.{arith}
use Rattle.std.proofs.Math.Seq.{drop-append_seam, take-append_seam}
use Rattle.utf8.specs.Choice.{pick}
use Rattle.utf8.specs.Encode.{encode}
use Rattle.scan.specs.declared.Numeral.{Numeral}
use Rattle.placeholder.specs.declared.Align.{Align}
use Rattle.placeholder.specs.declared.Hex.{Hex}
use Rattle.placeholder.specs.declared.Sign.{Sign}
use Rattle.grammar.specs.Grammar.{value, Position, next, number, word, Lead, unaligned, aligned, filled, Width, implied, fixed, by_argument, by_name, Precision, undotted, star, dot, Letter, lower, upper, letter_char, Typing, untyped, debug, hex_debug, hex, typed, FormatSpec, SpecText, format_spec, unmodified, modifier, free_text, Tail, bare, colon, Inside, Element, run, opened, closed, placeholder}
use Rattle.grammar.specs.Grammar.{written_position, written_width, written_precision, written_typing, from_width, written_format, written_spec, written_tail, written_inside, written, written_all, utf8}
use Rattle.grammar.specs.Pieces.{size, bytes, bytes_at, end_of, tail_at, width_at, precision_at, type_at, past_tail, past, place_of, align_of, sign_of, type_text, hex_of, fill_of, count_of, precision_of, format_at, spec_at, after_place, argument_at, piece_at, pieces_of}
use Rattle.unique.specs.Device.Splits.{Splits, both, codes, position_split, lead_split, sign_split, flag_split, width_split, precision_split, split}
use Rattle.unique.specs.Device.Stands.{ascii, size_append}
use Rattle.joins.proofs.Device.Bytes.{utf8_append}
use Rattle.joins.proofs.Device.Meets.{utf8_length}
use Rattle.pen.specs.Pens.{text_of}
use Rattle.plain.specs.Said as S
use Rattle.plain.specs.Said.{SaidPlace, SaidFill, SaidCount, SaidSpec, SaidPiece, said_place, said_fill, said_count, said_spec, said_piece, said}

-- WHAT ELEMENTS SAY, where the next argument has number n
abbrev pub of_position : ℕ → Position → SaidPlace
of_position n next = S.next n
of_position n (number d r) = S.at (Numeral.Within (value 0 (d ∷ r)))
of_position n (word c r) = S.named (utf8 (c ∷ r))

abbrev pub of_lead : Lead → SaidFill
of_lead unaligned = S.unfilled
of_lead (aligned a) = S.unfilled
of_lead (filled c a) = S.filled c

abbrev pub of_width : Width → SaidCount
of_width implied = S.implied
of_width (fixed d r) = S.fixed (Numeral.Within (value 0 (d ∷ r)))
of_width (by_argument d r) = S.by_argument (Numeral.Within (value 0 (d ∷ r)))
of_width (by_name c r) = S.by_name (utf8 (c ∷ r))

abbrev pub of_precision : ℕ → Precision → SaidCount
of_precision n undotted = S.implied
of_precision n star = S.by_star n
of_precision n (dot w) = of_width w

abbrev pub of_typing : Typing → List ℕ
of_typing untyped = []
of_typing debug = 0x3F ∷ []
of_typing (hex_debug x) = 0x3F ∷ []
of_typing (hex x) = letter_char x ∷ []
of_typing (typed c r) = utf8 (c ∷ r)

abbrev pub of_format : ℕ → FormatSpec → SaidSpec
of_format n f =
    record {
      fill = of_lead f.lead;
      align = align_of f.lead;
      sign = sign_of f.sign;
      alternate = f.alternate;
      zero = f.zero;
      hex = hex_of f.typing;
      width = of_width f.width;
      precision = of_precision n f.precision;
      typetext = of_typing f.typing;
    }

-- a type's text and nothing else
abbrev pub only_type : List ℕ → SaidSpec
only_type text =
    record {
      fill = S.unfilled;
      align = Align.Unknown;
      sign = Sign.Absent;
      alternate = false;
      zero = false;
      hex = Hex.Absent;
      width = S.implied;
      precision = S.implied;
      typetext = text;
    }

abbrev pub of_spec : ℕ → SpecText → SaidSpec
of_spec n (format_spec f) = of_format n f
of_spec n unmodified = only_type []
of_spec n (modifier c r) = only_type (utf8 (c ∷ r))
of_spec n (free_text r) = only_type (utf8 r)

abbrev pub of_tail : ℕ → Tail → SaidSpec
of_tail n bare = only_type []
of_tail n (colon s w) = of_spec n s

abbrev pub of_element : ℕ → Element → SaidPiece
of_element n (run c r) = S.literal (utf8 (c ∷ r))
of_element n (opened r) = S.literal (utf8 (0x7B ∷ r))
of_element n (closed r) = S.literal (utf8 (0x7D ∷ r))
of_element n (placeholder a) = S.argument (of_position (past_tail n a.tail) a.position) (of_tail n a.tail)

abbrev pub of_all : ℕ → List Element → List SaidPiece
of_all n [] = []
of_all n (e ∷ es) = of_element n e ∷ of_all (past n e) es

-- THE CODES cs STAND in t from byte p to the end
abbrev Stand : List ℕ → ℕ → List ℕ → Type 0
Stand t p cs = drop p t ≡ utf8 cs

module _ (t : List ℕ) where
  -- past some of them stand the others,
  onward : (p : ℕ) (r u : List ℕ) → Stand t p (r ++ u) → Stand t (p + size r) u
  onward p r u h =
      rw (← (utf8_length r), ← drop-drop, h, utf8_append r u) (drop-append_seam (utf8 r) (utf8 u))

  -- and the bytes between are their own
  between : (p : ℕ) (r u : List ℕ) → Stand t p (r ++ u) → text_of t (bytes_at p r) ≡ utf8 r
  between p r u h =
      let k : p + size r - p ≡ length (utf8 r) = omega (arith, utf8_length r) in
      rw (k, h, utf8_append r u) (take-append_seam (utf8 r) (utf8 u))

  -- past a part
  beyond : {w : List ℕ → List ℕ} → Splits w → (p : ℕ) (u : List ℕ) → Stand t p (w u) → Stand t (p + size (w [])) u
  beyond {w} s p u h = onward p (w []) u (h ∙ ap utf8 (s u))

  -- past an ASCII character
  one_size : (c : ℕ) → c < 0x80 → size (c ∷ []) ≡ 1
  unfolding size
  one_size c l = omega (arith, ascii c l)

  one_on : (p c : ℕ) (u : List ℕ) → c < 0x80 → Stand t p (c ∷ u) → Stand t (p + 1) u
  one_on p c u l h = rw (one_size c l) at (onward p (c ∷ []) u h)

  one_text : (p c : ℕ) (u : List ℕ) → c < 0x80 → Stand t p (c ∷ u) → text_of t (bytes p (p + 1)) ≡ utf8 (c ∷ [])
  one_text p c u l h = rw (one_size c l) at (between p (c ∷ []) u h)

  no_text : (p : ℕ) → text_of t (bytes p p) ≡ []
  no_text p = let k : p - p ≡ 0 = omega arith in rw k

  -- PARTS
  place_said : (p n : ℕ) (x : Position) (u : List ℕ) → Stand t p (written_position x u) → said_place t (place_of p n x) ≡ of_position n x
  place_said p n next u h = refl
  place_said p n (number d r) u h = refl
  place_said p n (word c r) u h = ap S.named (between p (c ∷ r) u h)

  fill_said : (q p : ℕ) (x : Lead) → said_fill t (fill_of q p x) ≡ of_lead x
  fill_said q p unaligned = refl
  fill_said q p (aligned a) = refl
  fill_said q p (filled c a) = refl

  width_said : (q p : ℕ) (x : Width) (u : List ℕ) → Stand t p (written_width x u) → said_count t (count_of q p x) ≡ of_width x
  width_said q p implied u h = refl
  width_said q p (fixed d r) u h = refl
  width_said q p (by_argument d r) u h = refl
  width_said q p (by_name c r) u h = ap S.by_name (between p (c ∷ r) (0x24 ∷ u) h)

  precision_said : (q p n : ℕ) (x : Precision) (u : List ℕ) → Stand t p (written_precision x u) → said_count t (precision_of q p n x) ≡ of_precision n x
  precision_said q p n undotted u h = refl
  precision_said q p n star u h = refl
  precision_said q p n (dot w) u h = width_said q (p + 1) w u (one_on p 0x2E (written_width w u) (omega arith) h)

  letter_text : (p : ℕ) (x : Letter) (u : List ℕ) → Stand t p (letter_char x ∷ u) → text_of t (bytes p (p + 1)) ≡ letter_char x ∷ []
  unfolding utf8 encode pick
  letter_text p lower u h = one_text p 0x78 u (omega arith) h
  letter_text p upper u h = one_text p 0x58 u (omega arith) h

  letter_on : (p : ℕ) (x : Letter) (u : List ℕ) → Stand t p (letter_char x ∷ u) → Stand t (p + 1) u
  letter_on p lower u h = one_on p 0x78 u (omega arith) h
  letter_on p upper u h = one_on p 0x58 u (omega arith) h

  typing_said : (p : ℕ) (x : Typing) (u : List ℕ) → Stand t p (written_typing x u) → text_of t (type_text p x) ≡ of_typing x
  unfolding utf8 encode pick
  typing_said p untyped u h = no_text p
  typing_said p debug u h = one_text p 0x3F u (omega arith) h
  typing_said p (hex_debug x) u h =
      let k : p + 2 ≡ p + 1 + 1 = omega arith in
      rw k (one_text (p + 1) 0x3F u (omega arith) (letter_on p x (0x3F ∷ u) h))
  typing_said p (hex x) u h = letter_text p x u h
  typing_said p (typed c r) u h = between p (c ∷ r) u h

  -- A FORMAT SPEC
  format_said : (q p n : ℕ) (f : FormatSpec) (u : List ℕ) → Stand t p (written_format f u) → said_spec t (format_at q p n f) ≡ of_format n f
  unfolding format_at
  format_said q p n f u h =
      let s = both (lead_split f.lead) (both (sign_split f.sign) (both (flag_split 0x23 f.alternate) (flag_split 0x30 f.zero))) in
      let w : Stand t (width_at p f) (from_width f u) = beyond s p (from_width f u) h in
      let x : Stand t (precision_at p f) (written_precision f.precision (written_typing f.typing u)) =
      beyond (width_split f.width) (width_at p f) (written_precision f.precision (written_typing f.typing u)) w
      in
      let k : Stand t (type_at p f) (written_typing f.typing u) = beyond (precision_split f.precision) (precision_at p f) (written_typing f.typing u) x in
      cc (
        fill_said q p f.lead,
        width_said q (width_at p f) f.width _ w,
        precision_said q (precision_at p f) n f.precision _ x,
        typing_said (type_at p f) f.typing u k,
      )

  spec_said : (q p n : ℕ) (x : SpecText) (u : List ℕ) → Stand t p (0x3A ∷ written_spec x u) → said_spec t (spec_at q p n x) ≡ of_spec n x
  spec_said q p n (format_spec f) u h = format_said q (p + 1) n f u (one_on p 0x3A (written_format f u) (omega arith) h)
  spec_said q p n unmodified u h = ap only_type (no_text (p + 1))
  spec_said q p n (modifier c r) u h = ap only_type (between (p + 1) (c ∷ r) u (one_on p 0x3A (c ∷ (r ++ u)) (omega arith) h))
  spec_said q p n (free_text r) u h = ap only_type (between (p + 1) r u (one_on p 0x3A (r ++ u) (omega arith) h))

  tail_said : (q p n : ℕ) (x : Tail) (u : List ℕ) → Stand t p (written_tail x u) → said_spec t (after_place q p n x) ≡ of_tail n x
  tail_said q p n bare u h = ap only_type (no_text p)
  tail_said q p n (colon s w) u h = spec_said q p n s (w ++ u) h

  -- A PLACEHOLDER
  argument_said : (q p n : ℕ) (a : Inside) (u : List ℕ) → Stand t p (0x7B ∷ written_inside a u) →
      said_piece t (piece_at q p n (placeholder a)) ≡ of_element n (placeholder a)
  unfolding argument_at
  argument_said q p n a u h =
      let i : Stand t (p + 1) (written_inside a u) = one_on p 0x7B (written_inside a u) (omega arith) h in
      let s = both (position_split a.position) (codes a.space) in
      let e : size (written_position a.position (a.space ++ [])) ≡ size (written_position a.position a.space) = ap (λ l. size (written_position a.position l)) (append-nil a.space) in
      let j : Stand t (tail_at p a) (written_tail a.tail u) = rw e at (beyond s (p + 1) (written_tail a.tail u) i) in
      cc (
        place_said (p + 1) (past_tail n a.tail) a.position _ i,
        tail_said q (tail_at p a) n a.tail u j,
      )

  -- A PIECE
  view : (p c : ℕ) (r u : List ℕ) → Stand t p (c ∷ (r ++ u)) → (e : ℕ) → e ≡ p + size (c ∷ r) → text_of t (bytes p e) ≡ utf8 (c ∷ r)
  view p c r u h e i = rw i (between p (c ∷ r) u h)

  piece_said : (q p n : ℕ) (e : Element) (u : List ℕ) → Stand t p (written e u) → said_piece t (piece_at q p n e) ≡ of_element n e
  unfolding size
  piece_said q p n (run c r) u h = ap S.literal (view p c r u h _ (omega (arith, size_append r [])))
  piece_said q p n (opened r) u h =
      ap S.literal (view (p + 1) 0x7B r u (one_on p 0x7B (0x7B ∷ (r ++ u)) (omega arith) h) _ (omega (arith, size_append r [], ascii 0x7B (omega arith))))
  piece_said q p n (closed r) u h =
      ap S.literal (view (p + 1) 0x7D r u (one_on p 0x7D (0x7D ∷ (r ++ u)) (omega arith) h) _ (omega (arith, size_append r [], ascii 0x7D (omega arith))))
  piece_said q p n (placeholder a) u h = argument_said q p n a (0x7D ∷ u) h

  -- THE PIECES
  pub pieces_said : (q p n : ℕ) (es : List Element) → Stand t p (written_all es []) → said t (pieces_of q p n es) ≡ of_all n es
  unfolding pieces_of
  pieces_said q p n [] h = refl
  pieces_said q p n (e ∷ es) h =
      cc (piece_said q p n e (written_all es []) h, pieces_said q (end_of p e) (past n e) es (beyond (split e) p (written_all es []) h))
