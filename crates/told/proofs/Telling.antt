-- The numbers of what is told, part by part: each part's four numbers are the layout's. Rests on Told, quick's Tellings and words' Layout.
use Prim.Native.Nat.{ℕ, ◌+◌, ◌-◌, ◌≤◌}
use mathlib.Core.Path.{◌≡◌, refl, sym, ap, ◌∙◌}
use mathlib.Core.Bool.{Bool, true, false, true≢false}
use mathlib.Core.List.{List, ◌++◌, append_assoc}
use native.Mathlib.Omega.{arith}
use lib.ListN.{length, length-append}
use Rattle.utf8.specs.Choice.{pick}
use Rattle.frame.specs.Places.{place, range_of}
use Rattle.frame.specs.Spans.{span_between}
use Rattle.frame.specs.declared.Frame.{Frame}
use Rattle.frame.specs.declared.Span.{Span}
use Rattle.placeholder.specs.Arguments.{resolved}
use Rattle.placeholder.specs.Specs.{no_spec}
use Rattle.placeholder.specs.declared.Spec.{Spec}
use Rattle.quick.specs.Tellings.{place_found, found_of, count_found, width_of, precision_of, is_nothing, count_span, fill_of, type_span, after_star, spec_of, argument_of}
use Rattle.quick.specs.declared.TypeTold.{TypeTold}
use Rattle.quick.specs.declared.PlaceKind.{PlaceKind}
use Rattle.quick.specs.declared.PlacePart.{PlacePart}
use Rattle.quick.specs.declared.CountKind.{CountKind}
use Rattle.quick.specs.declared.CountPart.{CountPart}
use Rattle.quick.specs.declared.SpecTold.{SpecTold}
use Rattle.quick.specs.declared.PlaceholderTold.{PlaceholderTold}
use Rattle.words.specs.Laid.{laid}
use Rattle.words.specs.LaidLaws.{laid_on, fill_words_length, place_words_length, count_words_length, spec_words_length, zeros_length, span_words_length, argument_words_length}
use Rattle.words.specs.Layout.{low_of, four, none, bit_of, align_of, sign_of, hex_of, place_tag, place_words, fill_words, span_words, count_data, name_span_end, count_words, head_words, spec_words, argument_words, zeros}
use Rattle.writing.proofs.Overlays.{laid_before}
use Rattle.words.proofs.Laying.{laying_first, laying_on, laying_last}
use Rattle.passing.specs.After.{place_of}
use Rattle.told.specs.Told.{Spoilt, Put, place_number, kind_number, kind_value, told_head, name_words, type_words}
use Rattle.told.proofs.Spoiling.{spoilt_laid, spoilt_then}

-- TWO PARTS laid one after the other
pub two_laid : (l : List ℕ) (k : ℕ) (a b : List ℕ) (j : ℕ) → j ≡ k + length a → k + length a + length b ≤ length l → {l₁ l₂ : List ℕ} →
    l₁ ≡ laid l k a → l₂ ≡ laid l₁ j b → l₂ ≡ laid l k (a ++ b)
two_laid l k a b j e h p q = q ∙ rw (p, e) (laid_on l k a b h)

-- two parts of four numbers
spoilt_two : (l : List ℕ) (k : ℕ) (a b : List ℕ) → length a ≡ 4 → length b ≡ 4 → k + 8 ≤ length l → {l₁ l₂ : List ℕ} → l₁ ≡ laid l k a →
    l₂ ≡ laid l₁ (k + 4) b → Spoilt k 8 l l₂
spoilt_two l k a b p q h w₁ w₂ =
    let e : k + 4 ≡ k + length a = omega (arith, p) in
    let r : k + length a + length b ≤ length l = omega (arith, p, q, h) in
    let c : length (a ++ b) ≡ 8 = omega (arith, length-append a b, p, q) in
    spoilt_laid l k (a ++ b) (omega (arith, c, h)) (two_laid l k a b (k + 4) e r w₁ w₂) c

-- THE HEAD: a place has its kind's number
place_tag_lem : (at : ℕ) (p : PlacePart) (n : ℕ) → place_tag (place_of at p n) ≡ place_number p.kind
unfolding place_of found_of
place_tag_lem at p n = go p.kind
  where
    go : (k : PlaceKind) → place_tag (resolved (place_found at p.end k) n).place ≡ place_number k
    go PlaceKind.Nothing = refl
    go (PlaceKind.Number v) = refl
    go PlaceKind.Word = refl

module _ (t : List ℕ) (f : Frame) (brace : ℕ) (x : PlaceholderTold) (n : ℕ) (l : List ℕ) (k : ℕ) (room : k + 8 ≤ length l) where
  pub head_laid : {l₁ l₂ : List ℕ} → l₁ ≡ laid l k (four 1 (low_of brace) (low_of x.on) (place_number x.place.kind)) →
      l₂ ≡ laid l₁ (k + 4) (place_words (place_of (brace + 1) x.place n) (span_between t f (place (brace + 1)) (place x.to))) →
      l₂ ≡ laid l k (told_head t f brace x n)
  unfolding told_head
  head_laid p q =
      let w = place_words (place_of (brace + 1) x.place n) (span_between t f (place (brace + 1)) (place x.to)) in
      rw (place_tag_lem (brace + 1) x.place n)
      (two_laid l k (four 1 (low_of brace) (low_of x.on) (place_number x.place.kind)) w (k + 4) (omega arith)
      (omega (arith, place_words_length (place_of (brace + 1) x.place n) (span_between t f (place (brace + 1)) (place x.to)))) p q)

-- a kind that is something
some_kind : (k : CountKind) → (k ≡ CountKind.Nothing → ⊥) → is_nothing k ≡ false
some_kind CountKind.Nothing n = absurd (n refl)
some_kind (CountKind.Number v) n = refl
some_kind (CountKind.Argument v) n = refl
some_kind CountKind.Star n = refl
some_kind CountKind.Name n = refl
some_kind CountKind.Dot n = refl

-- A COUNT that is no name: its kind's number, its value and its span
count_data_lem : (t : List ℕ) (f : Frame) (n from end : ℕ) (k : CountKind) → (k ≡ CountKind.Name → ⊥) →
    (four (kind_number k) (kind_value n k) 0 0 ≡ count_data (count_found t f n from end k)) × (0 ≡ name_span_end (count_found t f n from end k))
count_data_lem t f n from end CountKind.Nothing c = (refl, refl)
count_data_lem t f n from end (CountKind.Number v) c = (refl, refl)
count_data_lem t f n from end (CountKind.Argument v) c = (refl, refl)
count_data_lem t f n from end CountKind.Star c = (refl, refl)
count_data_lem t f n from end CountKind.Name c = absurd (c refl)
count_data_lem t f n from end CountKind.Dot c = (refl, refl)

module _ (t : List ℕ) (f : Frame) (start from n : ℕ) (p : CountPart) where
  abbrev counted : List ℕ
  counted = count_words (width_of t f n from p) (count_span t f start p)

  -- none
  none_lem : p.kind ≡ CountKind.Nothing → none ++ none ≡ counted
  unfolding width_of count_span pick
  none_lem e = rw e

  pub put_none : p.kind ≡ CountKind.Nothing → (l : List ℕ) (k : ℕ) → k + 8 ≤ length l → {l₁ l₂ : List ℕ} → l₁ ≡ laid l k none → l₂ ≡ laid l₁ (k + 4) none →
      Put (p.kind ≡ CountKind.Name → ⊥) k 8 counted l l₂
  put_none e l k h w₁ w₂ =
      record {
        wrote = λ _. two_laid l k none none (k + 4) (omega arith) (omega arith) w₁ w₂ ∙ ap (laid l k) (none_lem e);
        spoilt = spoilt_two l k none none refl refl h w₁ w₂;
      }

  -- any other: told or not, no more than eight numbers are written
  some_lem : (p.kind ≡ CountKind.Nothing → ⊥) → (p.kind ≡ CountKind.Name → ⊥) →
      let s = span_between t f (place start) (place p.end) in
      four (kind_number p.kind) (kind_value n p.kind) 0 0 ++ four 0 1 (low_of s.start.0) (low_of s.end.0) ≡ counted
  unfolding width_of count_span pick
  some_lem e c =
      let s = span_between t f (place start) (place p.end) in
      let d = count_data_lem t f n from p.end p.kind c in
      rw (some_kind p.kind e)
      (ap (λ (l : List ℕ). l ++ four 0 1 (low_of s.start.0) (low_of s.end.0)) d.0
      ∙ ap (λ (m : ℕ). count_data (count_found t f n from p.end p.kind) ++ four m 1 (low_of s.start.0) (low_of s.end.0)) d.1)

  pub put_some : (p.kind ≡ CountKind.Nothing → ⊥) → (l : List ℕ) (k : ℕ) → k + 8 ≤ length l → {l₁ l₂ : List ℕ} →
      l₁ ≡ laid l k (four (kind_number p.kind) (kind_value n p.kind) 0 0) →
      l₂ ≡ laid l₁ (k + 4) (four 0 1 (low_of (span_between t f (place start) (place p.end)).start.0) (low_of (span_between t f (place start) (place p.end)).end.0)) →
      Put (p.kind ≡ CountKind.Name → ⊥) k 8 counted l l₂
  put_some e l k room w₁ w₂ =
      let s = span_between t f (place start) (place p.end) in
      let a = four (kind_number p.kind) (kind_value n p.kind) 0 0 in
      let b = four 0 1 (low_of s.start.0) (low_of s.end.0) in
      record {
        wrote = λ c. two_laid l k a b (k + 4) (omega arith) (omega arith) w₁ w₂ ∙ ap (laid l k) (some_lem e c);
        spoilt = spoilt_two l k a b refl refl room w₁ w₂;
      }

  -- a name
  pub name_counted : p.kind ≡ CountKind.Name → name_words t f start from p.end ≡ counted
  unfolding name_words width_of count_span pick
  name_counted e = rw e

-- A COUNT THAT MAY BE A NAME, as it is written: a name
module _ (t : List ℕ) (f : Frame) (start from n k : ℕ) (p : CountPart) (l l' : List ℕ) where
  pub named_wrote : l' ≡ laid l k (name_words t f start from p.end) → p.kind ≡ CountKind.Name →
      l' ≡ laid l k (count_words (width_of t f n from p) (count_span t f start p))
  named_wrote w e = w ∙ ap (laid l k) (name_counted t f start from n p e)

  -- or none
  pub count_wrote : ((a : ℕ) → Put (p.kind ≡ CountKind.Name → ⊥) k 8 (count_words (width_of t f n a p) (count_span t f start p)) l l') →
      (p.kind ≡ CountKind.Name → ⊥) → l' ≡ laid l k (count_words (width_of t f n from p) (count_span t f start p))
  count_wrote w c = (w from).wrote c

-- a dot is no name
is_dot : CountKind → Bool
is_dot CountKind.Nothing = false
is_dot (CountKind.Number v) = false
is_dot (CountKind.Argument v) = false
is_dot CountKind.Star = false
is_dot CountKind.Name = false
is_dot CountKind.Dot = true

pub dot_unnamed : {k : CountKind} → k ≡ CountKind.Dot → k ≡ CountKind.Name → ⊥
unfolding is_dot
dot_unnamed d n = true≢false (ap is_dot (sym d ∙ n))

-- a name's bytes and their span, then the count's span
pub name_laid : (t : List ℕ) (f : Frame) (start from end : ℕ) (l : List ℕ) (k : ℕ) → k + 8 ≤ length l → {l₁ l₂ : List ℕ} →
    l₁ ≡ laid l k (four 4 (low_of from) (low_of (end - 1)) (low_of (span_between t f (place from) (place (end - 1))).start.0)) →
    l₂ ≡ laid l₁ (k + 4) (four (low_of (span_between t f (place from) (place (end - 1))).end.0) 1 (low_of (span_between t f (place start) (place end)).start.0) (low_of (span_between t f (place start) (place end)).end.0)) →
    l₂ ≡ laid l k (name_words t f start from end)
unfolding name_words
name_laid t f start from end l k h w₁ w₂ =
    let s = span_between t f (place from) (place (end - 1)) in
    let o = span_between t f (place start) (place end) in
    two_laid l k (four 4 (low_of from) (low_of (end - 1)) (low_of s.start.0)) (four (low_of s.end.0) 1 (low_of o.start.0) (low_of o.end.0)) (k + 4) (omega arith) (omega arith) w₁ w₂

-- A TYPE: its bytes, and a word's span
module _ (t : List ℕ) (f : Frame) (x : TypeTold) (l : List ℕ) (k : ℕ) (h : k + 8 ≤ length l) where
  abbrev bytes : List ℕ
  bytes = four (low_of x.from) (low_of x.end) (hex_of x.hex) 0

  abbrev span : Span
  span = span_between t f (place x.from) (place x.end)

  pub type_word_lem : x.word ≡ true → {l₁ l₂ : List ℕ} → l₁ ≡ laid l k bytes → l₂ ≡ laid l₁ (k + 4) (four 0 1 (low_of span.start.0) (low_of span.end.0)) →
      l₂ ≡ laid l k (type_words t f x)
  unfolding type_words type_span pick
  type_word_lem e w₁ w₂ = rw e (two_laid l k bytes (four 0 1 (low_of span.start.0) (low_of span.end.0)) (k + 4) (omega arith) (omega arith) w₁ w₂)

  pub type_sign : x.word ≡ false → {l₁ l₂ : List ℕ} → l₁ ≡ laid l k bytes → l₂ ≡ laid l₁ (k + 4) none → l₂ ≡ laid l k (type_words t f x)
  unfolding type_words type_span pick
  type_sign e w₁ w₂ = rw e (two_laid l k bytes none (k + 4) (omega arith) (omega arith) w₁ w₂)

-- THE SPEC: its fill and its marks
pub marks_spoilt : (t : List ℕ) (f : Frame) (at past : ℕ) (ms : List ℕ) → length ms ≡ 4 → (l : List ℕ) (k : ℕ) → k + 8 ≤ length l → {l₁ l₂ : List ℕ} →
    l₁ ≡ laid l k (fill_words (fill_of t f at past)) → l₂ ≡ laid l₁ (k + 4) ms → Spoilt k 8 l l₂
marks_spoilt t f at past ms c l k room w₁ w₂ = spoilt_two l k (fill_words (fill_of t f at past)) ms (fill_words_length (fill_of t f at past)) c room w₁ w₂

type_words_length : (t : List ℕ) (f : Frame) (x : TypeTold) → length (type_words t f x) ≡ 8
unfolding type_words
type_words_length t f x =
    omega (arith, length-append (four (low_of x.from) (low_of x.end) (hex_of x.hex) 0) (span_words 0 (type_span t f x)), span_words_length 0 (type_span t f x))

pub type_spoilt : (t : List ℕ) (f : Frame) (x : TypeTold) (l : List ℕ) (k : ℕ) → k + 8 ≤ length l → {l₁ : List ℕ} → l₁ ≡ laid l k (type_words t f x) → Spoilt k 8 l l₁
type_spoilt t f x l k h w = let c = type_words_length t f x in spoilt_laid l k (type_words t f x) (omega (arith, c, h)) w c

-- its parts are laid one after another
module _ (t : List ℕ) (f : Frame) (at n : ℕ) (x : SpecTold) (l : List ℕ) (k : ℕ) (room : k + 32 ≤ length l) where
  pub spec_laid : {l₁ l₂ l₃ l₄ l₅ : List ℕ} → l₁ ≡ laid l k (fill_words (fill_of t f at x.fill)) →
      l₂ ≡ laid l₁ (k + 4) (four (align_of x.align) (sign_of x.sign) (bit_of x.alternate) (bit_of x.zero)) →
      l₃ ≡ laid l₂ (k + 8) (count_words (width_of t f n x.from x.width) (count_span t f x.from x.width)) →
      l₄ ≡ laid l₃ (k + 16) (count_words (precision_of t f n x.width.end x.precision) (count_span t f x.width.end x.precision)) →
      l₅ ≡ laid l₄ (k + 24) (type_words t f x.typed) →
      l₅ ≡ laid l k (spec_words (spec_of t f at n x))
  unfolding spec_of spec_words type_words
  spec_laid w₁ w₂ w₃ w₄ w₅ =
      let fill = fill_of t f at x.fill in
      let width = width_of t f n x.from x.width in
      let widthspan = count_span t f x.from x.width in
      let precision = precision_of t f n x.width.end x.precision in
      let precisionspan = count_span t f x.width.end x.precision in
      let a = laying_first l k (spec_words (spec_of t f at n x)) (omega (arith, spec_words_length (spec_of t f at n x))) in
      let b = laying_on (fill_words fill) (k + 4) a w₁ (omega (arith, fill_words_length fill)) in
      let c = laying_on (four (align_of x.align) (sign_of x.sign) (bit_of x.alternate) (bit_of x.zero)) (k + 8) b w₂ (omega arith) in
      let d = laying_on (count_words width widthspan) (k + 16) c w₃ (omega (arith, count_words_length width widthspan)) in
      let e = laying_on (count_words precision precisionspan) (k + 24) d w₄ (omega (arith, count_words_length precision precisionspan)) in
      laying_last e w₅

  -- told or not, no more than its numbers are written
  pub spec_put : {told : Type 0} {l₁ l₂ l₃ l₄ l₅ : List ℕ} → l₁ ≡ laid l k (fill_words (fill_of t f at x.fill)) →
      l₂ ≡ laid l₁ (k + 4) (four (align_of x.align) (sign_of x.sign) (bit_of x.alternate) (bit_of x.zero)) →
      Put told (k + 8) 8 (count_words (width_of t f n x.from x.width) (count_span t f x.from x.width)) l₂ l₃ →
      Put told (k + 16) 8 (count_words (precision_of t f n x.width.end x.precision) (count_span t f x.width.end x.precision)) l₃ l₄ →
      l₅ ≡ laid l₄ (k + 24) (type_words t f x.typed) →
      length l₂ ≡ length l → length l₃ ≡ length l → length l₄ ≡ length l → Put told k 32 (spec_words (spec_of t f at n x)) l l₅
  spec_put {told} {l₁} {l₂} {l₃} {l₄} {l₅} w₁ w₂ w₃ w₄ w₅ e₂ e₃ e₄ =
      let last = type_words t f x.typed in
      let c = type_words_length t f x.typed in
      let a = marks_spoilt t f at x.fill (four (align_of x.align) (sign_of x.sign) (bit_of x.alternate) (bit_of x.zero)) refl l k (omega (arith, room)) w₁ w₂ in
      let b : Spoilt k 32 l l₃ = spoilt_then a (omega arith) (omega arith) w₃.spoilt (omega arith) (omega arith) e₂ in
      let d : Spoilt k 32 l l₄ = spoilt_then b (omega arith) (omega arith) w₄.spoilt (omega arith) (omega arith) e₃ in
      record {
        wrote = λ y. spec_laid w₁ w₂ (w₃.wrote y) (w₄.wrote y) w₅;
        spoilt = spoilt_then d (omega arith) (omega arith) (spoilt_laid l₄ (k + 24) last (omega (arith, c, e₄, room)) w₅ c) (omega arith) (omega arith) e₄;
      }

-- THE WHOLE: the head, and then the spec
head_length : (t : List ℕ) (f : Frame) (brace : ℕ) (x : PlaceholderTold) (n : ℕ) → length (told_head t f brace x n) ≡ 8
unfolding told_head
head_length t f brace x n =
    let p = place_of (brace + 1) x.place n in
    let s = span_between t f (place (brace + 1)) (place x.to) in
    omega (arith, length-append (head_words 1 (range_of (place brace) (place x.on)) (place_tag p)) (place_words p s), place_words_length p s)

module _ (t : List ℕ) (f : Frame) (brace : ℕ) (x : PlaceholderTold) (n : ℕ) where
  whole : told_head t f brace x (after_star n x.spec.precision) ++ spec_words (argument_of t f brace n x).spec ≡ argument_words (argument_of t f brace n x)
  unfolding argument_words argument_of told_head place_of
  whole =
      let p = place_of (brace + 1) x.place (after_star n x.spec.precision) in
      append_assoc (head_words 1 (range_of (place brace) (place x.on)) (place_tag p))
      (place_words p (span_between t f (place (brace + 1)) (place x.to))) (spec_words (argument_of t f brace n x).spec)

  spec_none : x.colon ≡ false → (argument_of t f brace n x).spec ≡ (no_spec (place x.to) n).spec
  unfolding argument_of pick
  spec_none e = rw e

  spec_some : x.colon ≡ true → (argument_of t f brace n x).spec ≡ spec_of t f (x.to + 1) n x.spec
  unfolding argument_of pick
  spec_some e = rw e

  -- without a colon there is no spec
  pub bare_whole : x.colon ≡ false → told_head t f brace x (after_star n x.spec.precision) ++ spec_words (no_spec (place x.to) n).spec ≡ argument_words (argument_of t f brace n x)
  bare_whole e = ap (λ (s : Spec). told_head t f brace x (after_star n x.spec.precision) ++ spec_words s) (sym (spec_none e)) ∙ whole

  -- with one it starts after it
  pub told_whole : x.colon ≡ true → told_head t f brace x (after_star n x.spec.precision) ++ spec_words (spec_of t f (x.to + 1) n x.spec) ≡ argument_words (argument_of t f brace n x)
  told_whole e = ap (λ (s : Spec). told_head t f brace x (after_star n x.spec.precision) ++ spec_words s) (sym (spec_some e)) ∙ whole

module _ (t : List ℕ) (f : Frame) (brace : ℕ) (x : PlaceholderTold) (n : ℕ) (l : List ℕ) (k : ℕ) (room : k + 40 ≤ length l) where
  -- no spec is 24 zeros, an empty type where the place ends, and four more
  pub bare_laid : {l₁ l₂ l₃ l₄ : List ℕ} → l₁ ≡ laid l k (told_head t f brace x n) → l₂ ≡ laid l₁ (k + 8) zeros →
      l₃ ≡ laid l₂ (k + 32) (four (low_of x.to) (low_of x.to) 0 0) → l₄ ≡ laid l₃ (k + 36) none →
      l₄ ≡ laid l k (told_head t f brace x n ++ spec_words (no_spec (place x.to) n).spec)
  unfolding spec_words zeros
  bare_laid w₁ w₂ w₃ w₄ =
      let head = told_head t f brace x n in
      let all = head ++ spec_words (no_spec (place x.to) n).spec in
      let h = head_length t f brace x n in
      let a = laying_first l k all (omega (arith, length-append head (spec_words (no_spec (place x.to) n).spec), spec_words_length (no_spec (place x.to) n).spec)) in
      let b = laying_on head (k + 8) a w₁ (omega arith) in
      let c = laying_on zeros (k + 32) b w₂ (omega (arith, zeros_length)) in
      let d = laying_on (four (low_of x.to) (low_of x.to) 0 0) (k + 36) c w₃ (omega arith) in
      laying_last d w₄

-- THE WHOLE: all of its numbers
module _ (t : List ℕ) (f : Frame) (brace : ℕ) (x : PlaceholderTold) (n : ℕ) (l : List ℕ) (k : ℕ) (room : k + 40 ≤ length l) where
  abbrev words : List ℕ
  words = argument_words (argument_of t f brace n x)

  pub spoilt_whole : {l₁ : List ℕ} → l₁ ≡ laid l k words → Spoilt k 40 l l₁
  spoilt_whole w = let c = argument_words_length (argument_of t f brace n x) in spoilt_laid l k words (omega (arith, c, room)) w c

  -- without a colon
  pub bare_told : x.colon ≡ false → {l₁ : List ℕ} → l₁ ≡ laid l k (told_head t f brace x (after_star n x.spec.precision) ++ spec_words (no_spec (place x.to) (after_star n x.spec.precision)).spec) → l₁ ≡ laid l k words
  bare_told e w = w ∙ ap (laid l k) (bare_whole t f brace x n e)

  -- with one: the spec is written first
  pub spec_told_lem : x.colon ≡ true → {l₁ : List ℕ} → l₁ ≡ laid l (k + 8) (spec_words (spec_of t f (x.to + 1) n x.spec)) →
      {l₂ : List ℕ} → l₂ ≡ laid l₁ k (told_head t f brace x (after_star n x.spec.precision)) → l₂ ≡ laid l k words
  spec_told_lem e w {l₂} w₂ =
      let head = told_head t f brace x (after_star n x.spec.precision) in
      let spec = spec_words (spec_of t f (x.to + 1) n x.spec) in
      let h = head_length t f brace x (after_star n x.spec.precision) in
      let c = spec_words_length (spec_of t f (x.to + 1) n x.spec) in
      let j : k + 8 ≡ k + length head = omega (arith, h) in
      w₂ ∙ rw (w, j) (laid_before l k head spec (omega (arith, h, c, room))) ∙ ap (laid l k) (told_whole t f brace x n e)
