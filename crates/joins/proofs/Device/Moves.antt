-- The pieces of elements that stand d bytes on, with numbers k on, are the moved ones. Rests on grammar's Pieces.
use Rattle.std.specs.Prelude.{◌≡◌, ℕ, ◌+◌, Some}
use Rattle.std.proofs.Math.Path.{refl}
use Rattle.std.proofs.Common.{ap, arith}
use mathlib.Core.List.{List, [], ◌∷◌, map}
use Rattle.placeholder.specs.declared.Place.{Place}
use Rattle.placeholder.specs.declared.Fill.{Fill}
use Rattle.reading.specs.declared.Piece.{Piece}
use Rattle.grammar.specs.Grammar.{Position, next, number, word, Lead, unaligned, aligned, filled, Width, implied, fixed, by_argument, by_name, Precision, undotted, star, dot, Typing, untyped, debug, hex_debug, hex, typed, FormatSpec, SpecText, format_spec, unmodified, modifier, free_text, Tail, bare, colon, Inside, Element, run, opened, closed, placeholder, written_width}
use Rattle.grammar.specs.Pieces.{wide, size, bytes, end_of, tail_at, width_at, precision_at, type_at, past_precision, past_spec, past_tail, past_position, past, place_of, type_text, spanned, present, fill_of, count_of, width_span, precision_of, precision_span, type_span, format_at, spec_at, after_place, argument_at, piece_at, pieces_of}
use Rattle.joins.specs.Joins.{moved_range, moved_span, moved_maybe, moved_fill, moved_place, moved_count, moved_spec, moved_argument, moved}
use Rattle.placeholder.specs.Filling.{filling}

-- NUMBERS
past_precision_lem : (n k : ℕ) (x : Precision) → past_precision (n + k) x ≡ past_precision n x + k
past_precision_lem n k undotted = refl
past_precision_lem n k star = omega arith
past_precision_lem n k (dot w) = refl

past_spec_lem : (n k : ℕ) (x : SpecText) → past_spec (n + k) x ≡ past_spec n x + k
past_spec_lem n k (format_spec f) = past_precision_lem n k f.precision
past_spec_lem n k unmodified = refl
past_spec_lem n k (modifier c r) = refl
past_spec_lem n k (free_text r) = refl

past_tail_lem : (n k : ℕ) (x : Tail) → past_tail (n + k) x ≡ past_tail n x + k
past_tail_lem n k bare = refl
past_tail_lem n k (colon s w) = past_spec_lem n k s

past_position_lem : (n k : ℕ) (x : Position) → past_position (n + k) x ≡ past_position n x + k
past_position_lem n k next = omega arith
past_position_lem n k (number d ds) = refl
past_position_lem n k (word c r) = refl

past_moved : (n k : ℕ) (e : Element) → past (n + k) e ≡ past n e + k
past_moved n k (run c r) = refl
past_moved n k (opened r) = refl
past_moved n k (closed r) = refl
past_moved n k (placeholder a) = rw (past_tail_lem n k a.tail) (past_position_lem (past_tail n a.tail) k a.position)

module _ (q d k : ℕ) where
  -- RANGES AND SPANS
  range_moved : (a b x y : ℕ) → x ≡ a + d → y ≡ b + d → bytes x y ≡ moved_range d k (bytes a b)
  range_moved a b x y h i = rw (h, i)

  span_moved : (a b x y : ℕ) → x ≡ a + d → y ≡ b + d → spanned q x y ≡ moved_span d k (spanned q a b)
  span_moved a b x y h i =
      let u : x + q ≡ a + q + d = omega (arith, h) in
      let v : y + q ≡ b + q + d = omega (arith, i) in
      rw (u, v)

  present_moved : (a b x y : ℕ) → x ≡ a + d → y ≡ b + d → present q x y ≡ moved_maybe d k (present q a b)
  present_moved a b x y h i = ap Some (span_moved a b x y h i)

  -- PARTS, at a place x that is p moved
  module _ (p x : ℕ) (h : x ≡ p + d) where
    place_moved : (n : ℕ) (y : Position) → place_of x (n + k) y ≡ moved_place d k (place_of p n y)
    place_moved n next = refl
    place_moved n (number c r) = refl
    place_moved n (word c r) = ap Place.Named (range_moved p (p + size (c ∷ r)) x (x + size (c ∷ r)) h (omega (arith, h)))

    fill_moved : (y : Lead) → fill_of q x y ≡ moved_fill d k (fill_of q p y)
    fill_moved unaligned = refl
    fill_moved (aligned a) = refl
    fill_moved (filled c a) = ap (filling c) (span_moved p (p + wide c) x (x + wide c) h (omega (arith, h)))

    count_moved : (y : Width) → count_of q x y ≡ moved_count d k (count_of q p y)
    count_moved implied = refl
    count_moved (fixed c r) = refl
    count_moved (by_argument c r) = refl
    count_moved (by_name c r) =
        let n : ℕ = size (c ∷ r) in
        let i : x + n ≡ p + n + d = omega (arith, h) in
        cc (range_moved p (p + n) x (x + n) h i, span_moved p (p + n) x (x + n) h i)

    sized_moved : (n : ℕ) → present q x (x + n) ≡ moved_maybe d k (present q p (p + n))
    sized_moved n = present_moved p (p + n) x (x + n) h (omega (arith, h))

    width_moved : (y : Width) → width_span q x y ≡ moved_maybe d k (width_span q p y)
    width_moved implied = refl
    width_moved (fixed c r) = sized_moved (size (written_width (fixed c r) []))
    width_moved (by_argument c r) = sized_moved (size (written_width (by_argument c r) []))
    width_moved (by_name c r) = sized_moved (size (written_width (by_name c r) []))

    precision_moved : (y : Precision) → precision_span q x y ≡ moved_maybe d k (precision_span q p y)
    precision_moved undotted = refl
    precision_moved star = sized_moved 2
    precision_moved (dot w) =
        let n : ℕ = size (written_width w []) in
        present_moved p (p + 1 + n) x (x + 1 + n) h (omega (arith, h))

    text_moved : (y : Typing) → type_text x y ≡ moved_range d k (type_text p y)
    text_moved untyped = range_moved p p x x h h
    text_moved debug = range_moved p (p + 1) x (x + 1) h (omega (arith, h))
    text_moved (hex_debug y) = range_moved (p + 1) (p + 2) (x + 1) (x + 2) (omega (arith, h)) (omega (arith, h))
    text_moved (hex y) = range_moved p (p + 1) x (x + 1) h (omega (arith, h))
    text_moved (typed c r) = range_moved p (p + size (c ∷ r)) x (x + size (c ∷ r)) h (omega (arith, h))

    type_moved : (y : Typing) → type_span q x y ≡ moved_maybe d k (type_span q p y)
    type_moved untyped = refl
    type_moved debug = refl
    type_moved (hex_debug y) = refl
    type_moved (hex y) = refl
    type_moved (typed c r) = sized_moved (size (c ∷ r))

  star_moved : (p x n : ℕ) → x ≡ p + d → (y : Precision) → precision_of q x (n + k) y ≡ moved_count d k (precision_of q p n y)
  star_moved p x n h undotted = refl
  star_moved p x n h star = refl
  star_moved p x n h (dot w) = count_moved (p + 1) (x + 1) (omega (arith, h)) w

  -- A FORMAT SPEC
  format_moved : (p x n : ℕ) (f : FormatSpec) → x ≡ p + d → format_at q x (n + k) f ≡ moved_spec d k (format_at q p n f)
  unfolding format_at
  format_moved p x n f h =
      let w : width_at x f ≡ width_at p f + d = omega (arith, h) in
      let i : precision_at x f ≡ precision_at p f + d = omega (arith, w) in
      let j : type_at x f ≡ type_at p f + d = omega (arith, i) in
      cc (
        fill_moved p x h f.lead,
        count_moved (width_at p f) (width_at x f) w f.width,
        width_moved (width_at p f) (width_at x f) w f.width,
        star_moved (precision_at p f) (precision_at x f) n i f.precision,
        precision_moved (precision_at p f) (precision_at x f) i f.precision,
        text_moved (type_at p f) (type_at x f) j f.typing,
        type_moved (type_at p f) (type_at x f) j f.typing,
      )

  spec_moved : (p x n : ℕ) (s : SpecText) → x ≡ p + d → spec_at q x (n + k) s ≡ moved_spec d k (spec_at q p n s)
  spec_moved p x n (format_spec f) h = format_moved (p + 1) (x + 1) n f (omega (arith, h))
  spec_moved p x n unmodified h =
      let i : x + 1 ≡ p + 1 + d = omega (arith, h) in
      cc (range_moved (p + 1) (p + 1) (x + 1) (x + 1) i i)
  spec_moved p x n (modifier c r) h =
      let m : ℕ = size (c ∷ r) in
      let i : x + 1 ≡ p + 1 + d = omega (arith, h) in
      let j : x + 1 + m ≡ p + 1 + m + d = omega (arith, h) in
      cc (range_moved (p + 1) (p + 1 + m) (x + 1) (x + 1 + m) i j, present_moved (p + 1) (p + 1 + m) (x + 1) (x + 1 + m) i j)
  spec_moved p x n (free_text r) h =
      let m : ℕ = size r in
      let i : x + 1 ≡ p + 1 + d = omega (arith, h) in
      let j : x + 1 + m ≡ p + 1 + m + d = omega (arith, h) in
      cc (range_moved (p + 1) (p + 1 + m) (x + 1) (x + 1 + m) i j, present_moved p (p + 1 + m) x (x + 1 + m) h j)

  tail_moved : (p x n : ℕ) (y : Tail) → x ≡ p + d → after_place q x (n + k) y ≡ moved_spec d k (after_place q p n y)
  tail_moved p x n bare h = cc (range_moved p p x x h h)
  tail_moved p x n (colon s w) h = spec_moved p x n s h

  -- A PLACEHOLDER
  argument_moved : (p x n : ℕ) (a : Inside) → x ≡ p + d → argument_at q x (n + k) a ≡ moved_argument d k (argument_at q p n a)
  unfolding argument_at
  argument_moved p x n a h =
      let i : x + 1 ≡ p + 1 + d = omega (arith, h) in
      let j : tail_at x a ≡ tail_at p a + d = omega (arith, h) in
      let e : end_of x (placeholder a) ≡ end_of p (placeholder a) + d = omega (arith, h) in
      cc (
        past_tail_lem n k a.tail,
        place_moved (p + 1) (x + 1) i (past_tail n a.tail) a.position,
        span_moved (p + 1) (tail_at p a) (x + 1) (tail_at x a) i j,
        tail_moved (tail_at p a) (tail_at x a) n a.tail j,
        range_moved p (end_of p (placeholder a)) x (end_of x (placeholder a)) h e,
      )

  -- A PIECE
  piece_moved : (p x n : ℕ) (e : Element) → x ≡ p + d → piece_at q x (n + k) e ≡ moved d k (piece_at q p n e)
  piece_moved p x n (run c r) h = ap Piece.Literal (range_moved p (end_of p (run c r)) x (end_of x (run c r)) h (omega (arith, h)))
  piece_moved p x n (opened r) h =
      ap Piece.Literal (range_moved (p + 1) (end_of p (opened r)) (x + 1) (end_of x (opened r)) (omega (arith, h)) (omega (arith, h)))
  piece_moved p x n (closed r) h =
      ap Piece.Literal (range_moved (p + 1) (end_of p (closed r)) (x + 1) (end_of x (closed r)) (omega (arith, h)) (omega (arith, h)))
  piece_moved p x n (placeholder a) h = ap Piece.Placeholder (argument_moved p x n a h)

  -- PIECES
  pub pieces_moved : (p x n : ℕ) (es : List Element) → x ≡ p + d → pieces_of q x (n + k) es ≡ map (moved d k) (pieces_of q p n es)
  unfolding pieces_of
  pieces_moved p x n [] h = refl
  pieces_moved p x n (e ∷ es) h =
      let i : end_of x e ≡ end_of p e + d = omega (arith, h) in
      cc (piece_moved p x n e h, past_moved n k e, pieces_moved (end_of p e) (end_of x e) (past n e) es i)
