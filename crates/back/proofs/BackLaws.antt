-- What is read back from a record's numbers is the record, where each number fits. Rests on Back and on the layout.
use Rattle.std.specs.Prelude.{ℕ, ◌+◌, ◌≡◌, Bool, true, false, List, ◌++◌, Option, Some, None}
use Rattle.std.proofs.Math.Path.{refl, ap}
use Rattle.std.proofs.Common.{◌∙◌, mod-eq_of_lt, arith}
use Rattle.utf8.specs.Choice.{pick}
use Rattle.frame.specs.declared.Span.{Span}
use Rattle.frame.specs.declared.TextRange.{TextRange}
use Rattle.scan.specs.declared.Count.{Count}
use Rattle.scan.specs.declared.Numeral.{Numeral}
use Rattle.placeholder.specs.declared.Align.{Align}
use Rattle.placeholder.specs.declared.Argument.{Argument}
use Rattle.placeholder.specs.declared.Fill.{Fill}
use Rattle.placeholder.specs.declared.Hex.{Hex}
use Rattle.placeholder.specs.declared.Place.{Place}
use Rattle.placeholder.specs.declared.Sign.{Sign}
use Rattle.reading.specs.declared.ErrorRecord.{ErrorRecord}
use Rattle.reading.specs.declared.Piece.{Piece}
use Rattle.words.specs.Layout.{low_of, four, bit_of, align_of, sign_of, hex_of, place_tag, place_words, fill_words, span_words, count_data, name_span_end, range_words, head_words, spec_words, argument_words, literal_words, piece_words, error_words}
use Rattle.back.specs.Back.{word, range_at, span_at, bit_from, align_from, sign_from, hex_from, maybe_span_at, maybe_range_at, fill_at, place_at, count_at, spec_from, argument_from, piece_from, error_from, Below, RangeFits, SpanFits, MaybeSpanFits, MaybeRangeFits, FillFits, PlaceFits, CountFits, SpecFits, ArgumentFits, Fits, ErrorFits}

-- a number that fits is its low 32 bits
low_back : {n : ℕ} → Below n → low_of n ≡ n
unfolding low_of
low_back h = mod-eq_of_lt (omega arith)

-- each enum's number says which it is
bit_back : (b : Bool) → bit_from (bit_of b) ≡ b
bit_back true = refl
bit_back false = refl

align_back : (a : Align) → align_from (align_of a) ≡ a
unfolding pick
align_back Align.Unknown = refl
align_back Align.Left = refl
align_back Align.Right = refl
align_back Align.Center = refl

sign_back : (s : Sign) → sign_from (sign_of s) ≡ s
unfolding pick
sign_back Sign.Absent = refl
sign_back Sign.Plus = refl
sign_back Sign.Minus = refl

hex_back : (h : Hex) → hex_from (hex_of h) ≡ h
unfolding pick
hex_back Hex.Absent = refl
hex_back Hex.Lower = refl
hex_back Hex.Upper = refl

-- four numbers from the k-th on
abbrev four_at : List ℕ → ℕ → List ℕ
four_at w k = four (word w k) (word w (k + 1)) (word w (k + 2)) (word w (k + 3))

-- a list of four numbers
data Four : List ℕ → Type 0 where
  made : (a b c d : ℕ) → Four (four a b c d)

module _ {a b c d : ℕ} (w : List ℕ) (k : ℕ) (e : four_at w k ≡ four a b c d) where
  -- each of four numbers that are known
  first : word w k ≡ a
  first = ap (λ (l : List ℕ). word l 0) e

  second : word w (k + 1) ≡ b
  second = ap (λ (l : List ℕ). word l 1) e

  third : word w (k + 2) ≡ c
  third = ap (λ (l : List ℕ). word l 2) e

  fourth : word w (k + 3) ≡ d
  fourth = ap (λ (l : List ℕ). word l 3) e

-- bytes and spans from numbers that are the low bits of theirs
range_back : (w : List ℕ) (i j : ℕ) (r : TextRange) → RangeFits r → word w i ≡ low_of r.start.0 → word w j ≡ low_of r.end.0 →
    range_at w i j ≡ r
range_back w i j r h a b = rw (a, b, low_back h.0, low_back h.1)

span_back : (w : List ℕ) (i j : ℕ) (s : Span) → SpanFits s → word w i ≡ low_of s.start.0 → word w j ≡ low_of s.end.0 →
    span_at w i j ≡ s
span_back w i j s h a b = rw (a, b, low_back h.0, low_back h.1)

module _ (w : List ℕ) (k : ℕ) where
  maybe_span_back : (n : ℕ) (s : Option Span) → MaybeSpanFits s → four_at w k ≡ span_words n s → maybe_span_at w k ≡ s
  unfolding pick
  maybe_span_back n None h e = rw (second w k e)
  maybe_span_back n (Some s) h e = rw (second w k e, span_back w (k + 2) (k + 3) s h (third w k e) (fourth w k e))

  maybe_range_back : (r : Option TextRange) → MaybeRangeFits r → four_at w k ≡ range_words r → maybe_range_at w k ≡ r
  unfolding pick
  maybe_range_back None h e = rw (second w k e)
  maybe_range_back (Some r) h e = rw (second w k e, range_back w (k + 2) (k + 3) r h (third w k e) (fourth w k e))

  fill_back : (x : Option Fill) → FillFits x → four_at w k ≡ fill_words x → fill_at w k ≡ x
  unfolding pick
  fill_back None h e = rw (first w k e)
  fill_back (Some f) h e = rw (first w k e, second w k e, span_back w (k + 2) (k + 3) f.span h (third w k e) (fourth w k e))

  place_back : (p : Place) (s : Span) → PlaceFits p → four_at w k ≡ place_words p s → place_at (place_tag p) w k ≡ p
  unfolding pick
  place_back (Place.Next n) s h e = rw (first w k e, low_back h)
  place_back (Place.At (Numeral.Within n)) s h e = rw (first w k e)
  place_back (Place.At Numeral.Over) s h e = refl
  place_back (Place.Named r) s h e = ap Place.Named (range_back w k (k + 1) r h (first w k e) (second w k e))

  -- the span of a place
  place_span_back : (p : Place) (s : Span) → SpanFits s → four_at w k ≡ place_words p s → span_at w (k + 2) (k + 3) ≡ s
  place_span_back (Place.Next n) s h e = span_back w (k + 2) (k + 3) s h (third w k e) (fourth w k e)
  place_span_back (Place.At n) s h e = span_back w (k + 2) (k + 3) s h (third w k e) (fourth w k e)
  place_span_back (Place.Named r) s h e = span_back w (k + 2) (k + 3) s h (third w k e) (fourth w k e)

  -- a count, whose name's span ends in the next four
  count_back : (c : Count) → CountFits c → four_at w k ≡ count_data c → word w (k + 4) ≡ name_span_end c → count_at w k ≡ c
  unfolding pick
  count_back Count.Implied h e l = rw (first w k e)
  count_back (Count.Fixed (Numeral.Within n)) h e l = rw (first w k e, second w k e)
  count_back (Count.Fixed Numeral.Over) h e l = rw (first w k e)
  count_back (Count.ByArgument (Numeral.Within n)) h e l = rw (first w k e, second w k e)
  count_back (Count.ByArgument Numeral.Over) h e l = rw (first w k e)
  count_back (Count.ByStar n) h e l = rw (first w k e, second w k e, low_back h)
  count_back (Count.ByName r s) h e l =
      rw (
        first w k e,
        range_back w (k + 1) (k + 2) r h.0 (second w k e) (third w k e),
        span_back w (k + 3) (k + 4) s h.1 (fourth w k e) l,
      )

-- each part is four numbers
place_four : (p : Place) (s : Span) → Four (place_words p s)
place_four (Place.Next n) s = Four.made _ _ _ _
place_four (Place.At n) s = Four.made _ _ _ _
place_four (Place.Named r) s = Four.made _ _ _ _

fill_four : (x : Option Fill) → Four (fill_words x)
fill_four None = Four.made _ _ _ _
fill_four (Some f) = Four.made _ _ _ _

span_four : (n : ℕ) (s : Option Span) → Four (span_words n s)
span_four n None = Four.made _ _ _ _
span_four n (Some s) = Four.made _ _ _ _

-- and starts with the number that it is given
span_first : (n : ℕ) (s : Option Span) → word (span_words n s) 0 ≡ n
span_first n None = refl
span_first n (Some s) = refl

count_four : (c : Count) → Four (count_data c)
count_four Count.Implied = Four.made _ _ _ _
count_four (Count.Fixed n) = Four.made _ _ _ _
count_four (Count.ByArgument n) = Four.made _ _ _ _
count_four (Count.ByStar n) = Four.made _ _ _ _
count_four (Count.ByName r s) = Four.made _ _ _ _

range_four : (r : Option TextRange) → Four (range_words r)
range_four None = Four.made _ _ _ _
range_four (Some r) = Four.made _ _ _ _

-- the ten fours of a placeholder, each at its place
record Ten (w h p f m wd ws pd ps k ks : List ℕ) : Type 0 where
  head : four_at w 0 ≡ h
  place : four_at w 4 ≡ p
  fill : four_at w 8 ≡ f
  marks : four_at w 12 ≡ m
  width : four_at w 16 ≡ wd
  widthspan : four_at w 20 ≡ ws
  precision : four_at w 24 ≡ pd
  precisionspan : four_at w 28 ≡ ps
  typetext : four_at w 32 ≡ k
  typespan : four_at w 36 ≡ ks

ten : {h p f m wd ws pd ps k ks : List ℕ} → Four h → Four p → Four f → Four m → Four wd → Four ws → Four pd → Four ps → Four k → Four ks →
    Ten (h ++ (p ++ (f ++ (m ++ ((wd ++ ws) ++ ((pd ++ ps) ++ (k ++ ks))))))) h p f m wd ws pd ps k ks
ten (Four.made _ _ _ _) (Four.made _ _ _ _) (Four.made _ _ _ _) (Four.made _ _ _ _) (Four.made _ _ _ _) (Four.made _ _ _ _) (Four.made _ _ _ _)
    (Four.made _ _ _ _) (Four.made _ _ _ _) (Four.made _ _ _ _) =
    record {
      head = refl;
      place = refl;
      fill = refl;
      marks = refl;
      width = refl;
      widthspan = refl;
      precision = refl;
      precisionspan = refl;
      typetext = refl;
      typespan = refl;
    }

-- the ten of an argument
argument_ten : (a : Argument) →
    let s = a.spec in
    Ten (argument_words a) (head_words 1 a.range (place_tag a.place)) (place_words a.place a.placespan) (fill_words s.fill)
    (four (align_of s.align) (sign_of s.sign) (bit_of s.alternate) (bit_of s.zero)) (count_data s.width)
    (span_words (name_span_end s.width) s.widthspan) (count_data s.precision) (span_words (name_span_end s.precision) s.precisionspan)
    (four (low_of s.typetext.start.0) (low_of s.typetext.end.0) (hex_of s.hex) 0) (span_words 0 s.typespan)
unfolding argument_words spec_words
argument_ten a =
    let s = a.spec in
    ten (Four.made _ _ _ _) (place_four a.place a.placespan) (fill_four s.fill) (Four.made _ _ _ _) (count_four s.width)
    (span_four (name_span_end s.width) s.widthspan) (count_four s.precision) (span_four (name_span_end s.precision) s.precisionspan)
    (Four.made _ _ _ _) (span_four 0 s.typespan)

-- a four that is another's starts with its number
same_first : (w : List ℕ) (k n : ℕ) (s : Option Span) → four_at w k ≡ span_words n s → word w k ≡ n
same_first w k n s e = ap (λ (l : List ℕ). word l 0) e ∙ span_first n s

spec_back : (a : Argument) → SpecFits a.spec → spec_from (argument_words a) ≡ a.spec
unfolding spec_from
spec_back a h =
    let w = argument_words a in
    let s = a.spec in
    let t = argument_ten a in
    λ i.
    record {
      fill = fill_back w 8 s.fill h.fill t.fill i;
      align = (ap align_from (first w 12 t.marks) ∙ align_back s.align) i;
      sign = (ap sign_from (second w 12 t.marks) ∙ sign_back s.sign) i;
      alternate = (ap bit_from (third w 12 t.marks) ∙ bit_back s.alternate) i;
      zero = (ap bit_from (fourth w 12 t.marks) ∙ bit_back s.zero) i;
      hex = (ap hex_from (third w 32 t.typetext) ∙ hex_back s.hex) i;
      width = count_back w 16 s.width h.width t.width (same_first w 20 _ s.widthspan t.widthspan) i;
      widthspan = maybe_span_back w 20 _ s.widthspan h.widthspan t.widthspan i;
      precision = count_back w 24 s.precision h.precision t.precision (same_first w 28 _ s.precisionspan t.precisionspan) i;
      precisionspan = maybe_span_back w 28 _ s.precisionspan h.precisionspan t.precisionspan i;
      typetext = range_back w 32 33 s.typetext h.typetext (first w 32 t.typetext) (second w 32 t.typetext) i;
      typespan = maybe_span_back w 36 0 s.typespan h.typespan t.typespan i;
    }

argument_back : (a : Argument) → ArgumentFits a → argument_from (argument_words a) ≡ a
unfolding argument_from
argument_back a h =
    let w = argument_words a in
    let t = argument_ten a in
    λ i.
    record {
      place = (ap (λ (n : ℕ). place_at n w 4) (fourth w 0 t.head) ∙ place_back w 4 a.place a.placespan h.place t.place) i;
      placespan = place_span_back w 4 a.place a.placespan h.placespan t.place i;
      spec = spec_back a h.spec i;
      range = range_back w 1 2 a.range h.range (second w 0 t.head) (third w 0 t.head) i;
    }

-- A PIECE that fits is read back
pub piece_back : (p : Piece) → Fits p → piece_from (piece_words p) ≡ p
unfolding piece_from pick literal_words
piece_back (Piece.Literal r) h = ap Piece.Literal (range_back (literal_words r) 1 2 r h refl refl)
piece_back (Piece.Placeholder a) h = rw (first (argument_words a) 0 (argument_ten a).head, argument_back a h)

-- the four fours of an error record
record Sixteen (w h s q g : List ℕ) : Type 0 where
  head : four_at w 0 ≡ h
  second : four_at w 4 ≡ s
  quoted : four_at w 8 ≡ q
  suggestion : four_at w 12 ≡ g

four_fours : {h s q g : List ℕ} → Four h → Four s → Four q → Four g → Sixteen (h ++ (s ++ (q ++ g))) h s q g
four_fours (Four.made _ _ _ _) (Four.made _ _ _ _) (Four.made _ _ _ _) (Four.made _ _ _ _) =
    record {
      head = refl;
      second = refl;
      quoted = refl;
      suggestion = refl;
    }

error_fours : (e : ErrorRecord) →
    Sixteen (error_words e) (four e.kind (low_of e.span.start.0) (low_of e.span.end.0) (low_of e.piece)) (span_words 0 e.second) (range_words e.quoted)
    (span_words 0 e.suggestion)
unfolding error_words
error_fours e = four_fours (Four.made _ _ _ _) (span_four 0 e.second) (range_four e.quoted) (span_four 0 e.suggestion)

-- AN ERROR RECORD that fits is read back
pub error_back : (e : ErrorRecord) → ErrorFits e → error_from (error_words e) ≡ e
unfolding error_from
error_back e h =
    let w = error_words e in
    let t = error_fours e in
    λ i.
    record {
      kind = first w 0 t.head i;
      span = span_back w 1 2 e.span h.span (second w 0 t.head) (third w 0 t.head) i;
      second = maybe_span_back w 4 0 e.second h.second t.second i;
      quoted = maybe_range_back w 8 e.quoted h.quoted t.quoted i;
      suggestion = maybe_span_back w 12 0 e.suggestion h.suggestion t.suggestion i;
      piece = (fourth w 0 t.head ∙ low_back h.piece) i;
    }
