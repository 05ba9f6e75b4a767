-- What is told of each part is what is read, from the bytes at its place. Rests on Bytes and on the definitions of `scan` and `placeholder`.
use Rattle.std.specs.Prelude.{Option, None, Some, IfSome}
use Prim.Native.Nat.{ℕ, zero, suc, ◌+◌, ◌-◌, ◌≤◌, ◌<◌, zero-le}
use mathlib.Core.Path.{◌≡◌, refl, sym, ap, ◌∙◌}
use mathlib.Core.Bool.{Bool, true, false, true≢false}
use mathlib.Core.List.{List}
use native.Mathlib.Omega.{arith}
use borrow.Author.Tests.{eqb-true, eqb-false, ltb-true, ltb-false, eq-eqb, ne_eqb}
use lib.Dec.{eqb, ltb}
use lib.ListN.{length, get_or}
use Rattle.utf8.specs.Choice.{pick, both}
use Rattle.utf8.specs.ChoiceLaws.{pick_elim}
use Rattle.utf8.specs.Chars.{chars_of}
use Rattle.utf8.specs.Utf8.{peek_at, char}
use Rattle.utf8.specs.CharLaws.{peeked, before_past}
use Rattle.frame.specs.Places.{place, range_of}
use Rattle.frame.specs.declared.Frame.{Frame}
use Rattle.scan.specs.Words.{is_digit, word_end, word_read}
use Rattle.scan.specs.Counts.{is_empty, counted, number_count, name_count, count_read}
use Rattle.scan.specs.ScanLaws.{word_on, word_in}
use Rattle.scan.specs.declared.Count.{Count}
use Rattle.scan.specs.declared.CountRead.{CountRead}
use Rattle.scan.specs.declared.Flaw.{Flaw}
use Rattle.placeholder.specs.Places.{is_r, placed, raw_place, word_place, place_read}
use Rattle.placeholder.specs.Parts.{is_implied, fill_read, after_dot, precision_read}
use Rattle.placeholder.specs.Types.{hex_type, is_hex_or_hash, debug_type, word_type, type_read}
use Rattle.placeholder.specs.declared.Hex.{Hex}
use Rattle.placeholder.specs.declared.position.Found.{Found}
use Rattle.quick.specs.declared.NumberPart.{NumberPart}
use Rattle.quick.specs.declared.PlaceKind.{PlaceKind}
use Rattle.quick.specs.declared.CountKind.{CountKind}
use Rattle.quick.specs.declared.CountPart.{CountPart}
use Rattle.quick.specs.declared.TypeTold.{TypeTold}
use Rattle.quick.specs.Tellings.{found_of, count_found, width_of, precision_of, is_nothing, count_span, back_of, fill_of, type_span, after_star, blank_flaw}
use Rattle.quick.specs.PartsTold.{number_place, place_none, fixed_count, count_none, ends_byte, align_byte, sign_byte, blank_word, raw_word, sign_of, sign_told, type_word, NumberTold, PlaceTold, FillTold, CountGiven, WidthTold, PrecisionTold, TypeKnown}
use Rattle.scan.specs.AsciiWordLaws.{byte_in}
use Rattle.scan.specs.ReachLaws.{few_chars}
use Rattle.quick.proofs.Bytes.{at_byte, has, lacks, align_byte_lem, no_number, word_told}
use Rattle.frame.specs.declared.Span.{Span}

-- a word that is no raw name's `r`: another word, or the word `r` with no `#` after it, which has no flaw
module _ (t : List ℕ) (at end : ℕ) where
  named : raw_word t (get_or t at 0) at end ≡ false →
      pick (is_r t (range_of (place at) (place end))) (raw_place t (range_of (place at) (place end)))
      (placed (Found.Word (range_of (place at) (place end))) (place end) (blank_flaw (blank_word (get_or t at 0) at end) at end) Flaw.Clean) ≡
      placed (Found.Word (range_of (place at) (place end))) (place end) (blank_flaw (blank_word (get_or t at 0) at end) at end) Flaw.Clean
  unfolding raw_word is_r raw_place blank_word blank_flaw pick
  named = go (eqb (get_or t at 0) 0x72) refl (eqb end (at + 1)) refl (eqb (get_or t end 0) 0x23) refl
    where
      go : (x : Bool) → eqb (get_or t at 0) 0x72 ≡ x → (y : Bool) → eqb end (at + 1) ≡ y → (z : Bool) → eqb (get_or t end 0) 0x23 ≡ z → both x (both y z) ≡ false →
          pick (is_r t (range_of (place at) (place end))) (raw_place t (range_of (place at) (place end)))
          (placed (Found.Word (range_of (place at) (place end))) (place end) (blank_flaw (blank_word (get_or t at 0) at end) at end) Flaw.Clean) ≡
          placed (Found.Word (range_of (place at) (place end))) (place end) (blank_flaw (blank_word (get_or t at 0) at end) at end) Flaw.Clean
      go true b true e true h n = absurd (true≢false n)
      go true b true e false h n =
          let r = eqb-true (get_or t at 0) 0x72 b in
          rw (
            has t at 0x72 (omega arith) (omega arith) r,
            eq-eqb (at + 1) end (sym (eqb-true end (at + 1) e)),
            lacks t end 0x23 (omega arith) (omega arith) (eqb-false (get_or t end 0) 0x23 h),
            ne_eqb (get_or t at 0) 0x5F (λ q. omega arith),
          )
      go true b false e z h n =
          rw (
            has t at 0x72 (omega arith) (omega arith) (eqb-true (get_or t at 0) 0x72 b),
            ne_eqb (at + 1) end (λ q. eqb-false end (at + 1) e (sym q)),
          )
      go false b y e z h n = rw (lacks t at 0x72 (omega arith) (omega arith) (eqb-false (get_or t at 0) 0x72 b))

-- a count is implied where nothing is told, and no dot
implied : (t : List ℕ) (f : Frame) (n from end : ℕ) (k : CountKind) → (k ≡ CountKind.Dot → ⊥) → is_implied (count_found t f n from end k) ≡ is_nothing k
implied t f n from end CountKind.Nothing d = refl
implied t f n from end (CountKind.Number v) d = refl
implied t f n from end (CountKind.Argument v) d = refl
implied t f n from end CountKind.Star d = refl
implied t f n from end CountKind.Name d = refl
implied t f n from end CountKind.Dot d = absurd (d refl)

-- and none is found there
none_found : (t : List ℕ) (f : Frame) (n from end : ℕ) (k : CountKind) → is_nothing k ≡ true → count_found t f n from end k ≡ Count.Implied
none_found t f n from end CountKind.Nothing e = refl
none_found t f n from end (CountKind.Number v) e = absurd (true≢false (sym e))
none_found t f n from end (CountKind.Argument v) e = absurd (true≢false (sym e))
none_found t f n from end CountKind.Star e = absurd (true≢false (sym e))
none_found t f n from end CountKind.Name e = absurd (true≢false (sym e))
none_found t f n from end CountKind.Dot e = absurd (true≢false (sym e))

-- what is no dot
abbrev pub is_dot : CountKind → Bool
is_dot CountKind.Dot = true
is_dot _ = false

pub dotless : (k : CountKind) → is_dot k ≡ false → k ≡ CountKind.Dot → ⊥
dotless k n e = true≢false (sym (ap is_dot e) ∙ n)

-- a type that is an `x` or an `X`, the byte given, with the `?` after it
abbrev pub debug_of : ℕ → ℕ → TypeTold
debug_of b at = record { hex = pick (eqb b 0x78) Hex.Lower Hex.Upper; word = false; blank = false; from = at + 1; end = at + 2 }

-- no more characters are given back than the text has bytes
pub back_few : (t : List ℕ) (from word : ℕ) (p : CountPart) → back_of t from word p ≤ length t
unfolding back_of
back_few t from word p = pick_elim (λ (n : ℕ). n ≤ length t) (is_nothing p.kind) (λ _. few_chars t from word) (λ _. zero-le)

-- such a sign is not 0
pub sign_some : (b : ℕ) → sign_byte b ≡ true → 0 < b
unfolding sign_byte pick
sign_some zero y = absurd (true≢false (sym y))
sign_some (suc k) y = omega arith

-- after such a sign no other stands
ends_not : {b : ℕ} (c : ℕ) → ends_byte b ≡ true → (c ≡ 0x7D → ⊥) → (c ≡ 0x20 → ⊥) → b ≡ c → ⊥
unfolding ends_byte pick
ends_not {b} c y m n e = true≢false (sym y ∙ rw (e, ne_eqb c 0x7D m, ne_eqb c 0x20 n))

-- a span where something stands, by either test
span_by : (at end : ℕ) (s : Option Span) → at ≤ end → pick (eqb at end) None s ≡ pick (ltb at end) s None
unfolding pick
span_by at end s l = go (ltb at end) refl
  where
    go : (x : Bool) → ltb at end ≡ x → pick (eqb at end) None s ≡ pick x s None
    go true y = rw (ne_eqb at end (λ q. omega (arith, ltb-true at end y)))
    go false y = rw (eq-eqb at end (omega (arith, ltb-false at end y)))

module _ {t : List ℕ} {at : ℕ} where
  -- a place that is a number
  pub place_number_lem : {p : NumberPart} → NumberTold t at p → PlaceTold t at (number_place p)
  unfolding place_read found_of blank_flaw pick
  place_number_lem n = record { read = rw n.read; inside = n.inside }

  -- no place
  pub place_nothing : is_digit (get_or t at 0) ≡ false → (word_end t (place at)).0 ≡ at → at ≤ length t → PlaceTold t at (place_none at)
  unfolding place_read word_place word_read is_empty found_of blank_flaw pick
  place_nothing d e h =
      record { read = rw (no_number t at d, e, eq-eqb at at refl); inside = h }

  -- a place that is a word, and no raw name
  pub place_word : {end : ℕ} → is_digit (get_or t at 0) ≡ false → end ≡ (word_end t (place at)).0 → (end ≡ at → ⊥) →
      raw_word t (get_or t at 0) at end ≡ false → at ≤ length t →
      PlaceTold t at (record { kind = PlaceKind.Word; end = end; blank = blank_word (get_or t at 0) at end })
  unfolding place_read word_place is_empty found_of pick
  place_word {end} d e s r h =
      record {
        read = rw (no_number t at d, word_told t at end e, ne_eqb at end (λ q. s (sym q))) (named t at end r);
        inside = rw e (word_in t (place at) h);
      }

  module _ {p : NumberPart} (n : NumberTold t at p) where
    -- a number with `$`
    pub count_argument : get_or t p.end 0 ≡ 0x24 → CountGiven t at (record { kind = CountKind.Argument p.value; end = p.end + 1; blank = false })
    unfolding count_read number_count width_of pick
    count_argument b =
        record {
          some = refl;
          starless = refl;
          dotless = dotless (CountKind.Argument p.value) refl;
          read = λ f m. rw (n.read, has t p.end 0x24 (omega arith) (omega arith) b);
          spanned = λ f m. refl;
          whole = refl;
          inside = let h = byte_in t p.end (omega arith) in omega arith;
        }

    -- a number without
    pub count_fixed : (get_or t p.end 0 ≡ 0x24 → ⊥) → CountGiven t at (fixed_count p)
    unfolding count_read number_count width_of pick
    count_fixed b =
        record {
          some = refl;
          starless = refl;
          dotless = dotless (CountKind.Number p.value) refl;
          read = λ f m. rw (n.read, lacks t p.end 0x24 (omega arith) (omega arith) b);
          spanned = λ f m. refl;
          whole = refl;
          inside = n.inside;
        }

  -- a width that is a number
  pub width_count : {word : ℕ} {p : CountPart} → CountGiven t at p → WidthTold t at word p
  unfolding back_of blank_flaw pick
  width_count {p = p} g =
      record {
        starless = g.starless;
        dotless = g.dotless;
        read = λ f n. rw (g.read f n, g.some, g.whole);
        spanned = λ f n. g.spanned f n ∙ sym g.some;
        inside = g.inside;
      }

  module _ {word : ℕ} (d : is_digit (get_or t at 0) ≡ false) (e : word ≡ (word_end t (place at)).0) where
    -- a width that is a name
    pub width_name : at < word → get_or t word 0 ≡ 0x24 → WidthTold t at word (record { kind = CountKind.Name; end = word + 1; blank = blank_word (get_or t at 0) at word })
    unfolding count_read name_count is_empty width_of back_of pick
    width_name l b =
        let q : word + 1 - 1 ≡ word = omega arith in
        record {
          starless = refl;
          dotless = dotless CountKind.Name refl;
          read =
              λ f n.
              rw (
                no_number t at d,
                word_told t at word e,
                ne_eqb at word (λ q. omega arith),
                has t word 0x24 (omega arith) (omega arith) b,
                q,
              );
          spanned = λ f n. refl;
          inside = let h = byte_in t word (omega arith) in omega arith;
        }

    -- no width: a word without `$` is left
    pub width_none : (at < word → get_or t word 0 ≡ 0x24 → ⊥) → at ≤ length t →
        WidthTold t at word (record { kind = CountKind.Nothing; end = at; blank = blank_word (get_or t at 0) at word })
    unfolding count_read name_count is_empty width_of back_of pick
    width_none b h =
        record {
          starless = refl;
          dotless = dotless CountKind.Nothing refl;
          read =
              λ f n.
              rw (no_number t at d, word_told t at word e)
              (pick_elim (λ (r : CountRead). r ≡ counted Count.Implied (place at) (blank_flaw (blank_word (get_or t at 0) at word) at word) (length (chars_of t at word))) (eqb at word)
              (λ q. ap (counted Count.Implied (place at) (blank_flaw (blank_word (get_or t at 0) at word) at word)) (sym (ap length (before_past t word at (omega (arith, eqb-true at word q))))))
              (λ q. rw (lacks t word 0x24 (omega arith) (omega arith) (b (some q)))));
          spanned = λ f n. refl;
          inside = h;
        }
      where
        some : eqb at word ≡ false → at < word
        some q = let l : at ≤ word = rw e (word_on t (place at)) in let n = eqb-false at word q in omega arith

  -- no precision
  pub precision_none : (get_or t at 0 ≡ 0x2E → ⊥) → at ≤ length t → PrecisionTold t at 0 (count_none at)
  unfolding precision_read precision_of width_of count_span after_star pick
  precision_none b h =
      record { read = λ f n. rw (lacks t at 0x2E (omega arith) (omega arith) b); inside = h; few = zero-le }

  module _ (dot : get_or t at 0 ≡ 0x2E) where
    -- a star
    pub precision_star : get_or t (at + 1) 0 ≡ 0x2A → PrecisionTold t at 0 (record { kind = CountKind.Star; end = at + 2; blank = false })
    unfolding precision_read after_dot precision_of width_of count_span after_star pick
    precision_star b =
        let q : at + 1 + 1 ≡ at + 2 = omega arith in
        record {
          read =
              λ f n.
              rw (has t at 0x2E (omega arith) (omega arith) dot, has t (at + 1) 0x2A (omega arith) (omega arith) b, q);
          inside = let h = byte_in t (at + 1) (omega arith) in omega arith;
          few = zero-le;
        }

    module _ {word : ℕ} {p : CountPart} (b : get_or t (at + 1) 0 ≡ 0x2A → ⊥) (w : WidthTold t (at + 1) word p) (q : p.blank ≡ false) where
      -- what a width may be
      pub precision_width : is_nothing p.kind ≡ false → PrecisionTold t at 0 p
      unfolding precision_read after_dot precision_of back_of blank_flaw count_span after_star pick
      precision_width s =
          record {
            read =
                λ f n.
                rw (
                  has t at 0x2E (omega arith) (omega arith) dot,
                  lacks t (at + 1) 0x2A (omega arith) (omega arith) b,
                  w.read f n,
                  q,
                  s,
                  w.starless,
                );
            inside = w.inside;
            few = zero-le;
          }

      -- a dot with no width behind it: a word is given back
      pub precision_dot : is_nothing p.kind ≡ true → PrecisionTold t at (back_of t (at + 1) word p) (record { kind = CountKind.Dot; end = p.end; blank = false })
      unfolding precision_read after_dot precision_of width_of blank_flaw count_span after_star pick
      precision_dot z =
          record {
            read =
                λ f n.
                rw (
                  has t at 0x2E (omega arith) (omega arith) dot,
                  lacks t (at + 1) 0x2A (omega arith) (omega arith) b,
                  w.read f n,
                  q,
                  none_found t f n (at + 1) p.end p.kind z,
                );
            inside = w.inside;
            few = back_few t (at + 1) word p;
          }

  -- a fill: an align follows the character
  pub fill_some : {c w : ℕ} → peek_at t at ≡ Some (char c w) → align_byte (get_or t (at + w) 0) ≡ true → FillTold t at (at + w)
  unfolding fill_read fill_of pick
  fill_some {c} {w} e y =
      let p = peeked t at e in
      record {
        read = λ f. rw (e, align_byte_lem t (at + w), y, ne_eqb at (at + w) (λ q. omega (arith, p.some)));
        inside = p.room;
      }

  -- no fill: none follows
  pub fill_none : {c w : ℕ} → peek_at t at ≡ Some (char c w) → align_byte (get_or t (at + w) 0) ≡ false → FillTold t at at
  unfolding fill_read fill_of pick
  fill_none {c} {w} e y =
      let p = peeked t at e in
      record {
        read = λ f. rw (e, align_byte_lem t (at + w), y, eq-eqb at at refl);
        inside = omega (arith, p.room);
      }

  -- no fill at the end of the text
  pub fill_end : peek_at t at ≡ None → at ≤ length t → FillTold t at at
  unfolding fill_read fill_of pick
  fill_end e h = record { read = λ f. rw (e, eq-eqb at at refl); inside = h }

  -- `?`
  pub type_debug : get_or t at 0 ≡ 0x3F → ends_byte (get_or t (at + 1) 0) ≡ true → TypeKnown t at (sign_of at)
  unfolding type_read debug_type is_hex_or_hash type_span blank_flaw pick
  type_debug b y =
      record {
        read =
            λ f.
            let i = at + 1 in
            rw (
              lacks t at 0x78 (omega arith) (omega arith) (λ q. omega arith),
              lacks t at 0x58 (omega arith) (omega arith) (λ q. omega arith),
              has t at 0x3F (omega arith) (omega arith) b,
              at_byte t i 0x23 (omega arith) (omega arith),
              at_byte t i 0x78 (omega arith) (omega arith),
              at_byte t i 0x58 (omega arith) (omega arith),
              ne_eqb (get_or t i 0) 0x23 (ends_not 0x23 y (λ q. omega arith) (λ q. omega arith)),
              ne_eqb (get_or t i 0) 0x78 (ends_not 0x78 y (λ q. omega arith) (λ q. omega arith)),
              ne_eqb (get_or t i 0) 0x58 (ends_not 0x58 y (λ q. omega arith) (λ q. omega arith)),
            );
        inside = let h = byte_in t at (omega arith) in omega arith;
      }

  -- `x`
  pub type_lower : get_or t at 0 ≡ 0x78 → ends_byte (get_or t (at + 1) 0) ≡ true → TypeKnown t at (sign_of at)
  unfolding type_read hex_type type_span blank_flaw pick
  type_lower b y =
      record {
        read =
            λ f.
            rw (
              has t at 0x78 (omega arith) (omega arith) b,
              lacks t (at + 1) 0x3F (omega arith) (omega arith) (ends_not 0x3F y (λ q. omega arith) (λ q. omega arith)),
            );
        inside = let h = byte_in t at (omega arith) in omega arith;
      }

  -- `X`
  pub type_upper : get_or t at 0 ≡ 0x58 → ends_byte (get_or t (at + 1) 0) ≡ true → TypeKnown t at (sign_of at)
  unfolding type_read hex_type type_span blank_flaw pick
  type_upper b y =
      record {
        read =
            λ f.
            rw (
              lacks t at 0x78 (omega arith) (omega arith) (λ q. omega arith),
              has t at 0x58 (omega arith) (omega arith) b,
              lacks t (at + 1) 0x3F (omega arith) (omega arith) (ends_not 0x3F y (λ q. omega arith) (λ q. omega arith)),
            );
        inside = let h = byte_in t at (omega arith) in omega arith;
      }

  -- either with the `?` after it
  pub type_hex : sign_byte (get_or t at 0) ≡ true → (get_or t at 0 ≡ 0x3F → ⊥) → get_or t (at + 1) 0 ≡ 0x3F → TypeKnown t at (debug_of (get_or t at 0) at)
  unfolding sign_byte type_read hex_type type_span blank_flaw pick
  type_hex y d q = record { read = go (eqb (get_or t at 0) 0x78) refl; inside = let h = byte_in t (at + 1) (omega arith) in omega arith }
    where
      two : at + 1 + 1 ≡ at + 2
      two = omega arith

      upper : eqb (get_or t at 0) 0x78 ≡ false → get_or t at 0 ≡ 0x58
      upper e = eqb-true (get_or t at 0) 0x58 (rw (ne_eqb (get_or t at 0) 0x3F d, e) at y)

      go : (x : Bool) → eqb (get_or t at 0) 0x78 ≡ x → (f : Frame) →
          type_read t f (place at) ≡ record {
            hex = pick x Hex.Lower Hex.Upper;
            typetext = range_of (place (at + 1)) (place (at + 2));
            span = None;
            at = place (at + 2);
            flaw = Flaw.Clean;
          }
      go true e f =
          rw (
            has t at 0x78 (omega arith) (omega arith) (eqb-true (get_or t at 0) 0x78 e),
            has t (at + 1) 0x3F (omega arith) (omega arith) q,
            two,
          )
      go false e f =
          rw (
            lacks t at 0x78 (omega arith) (omega arith) (eqb-false (get_or t at 0) 0x78 e),
            has t at 0x58 (omega arith) (omega arith) (upper e),
            has t (at + 1) 0x3F (omega arith) (omega arith) q,
            two,
          )

  -- any of them
  pub type_sign : sign_byte (get_or t at 0) ≡ true → ends_byte (get_or t (at + 1) 0) ≡ true → TypeKnown t at (sign_of at)
  unfolding sign_byte pick
  type_sign y o = go (eqb (get_or t at 0) 0x3F) refl (eqb (get_or t at 0) 0x78) refl y
    where
      go : (a : Bool) → eqb (get_or t at 0) 0x3F ≡ a → (b : Bool) → eqb (get_or t at 0) 0x78 ≡ b → pick a true (pick b true (eqb (get_or t at 0) 0x58)) ≡ true →
          TypeKnown t at (sign_of at)
      go true e b d _ = type_debug (eqb-true (get_or t at 0) 0x3F e) o
      go false e true d _ = type_lower (eqb-true (get_or t at 0) 0x78 d) o
      go false e false d q = type_upper (eqb-true (get_or t at 0) 0x58 q) o

  -- a word, or nothing
  pub type_word_lem : {end : ℕ} → (get_or t at 0 ≡ 0x3F → ⊥) → (get_or t at 0 ≡ 0x78 → ⊥) → (get_or t at 0 ≡ 0x58 → ⊥) →
      end ≡ (word_end t (place at)).0 → at ≤ length t →
      TypeKnown t at (type_word (get_or t at 0) at end)
  unfolding type_read word_type is_empty type_span pick
  type_word_lem {end} d l u e h =
      record {
        read =
            λ f.
            rw (
              lacks t at 0x78 (omega arith) (omega arith) l,
              lacks t at 0x58 (omega arith) (omega arith) u,
              lacks t at 0x3F (omega arith) (omega arith) d,
              word_told t at end e,
              span_by at end _ (rw e (word_on t (place at))),
            );
        inside = rw e (word_in t (place at) h);
      }

  -- where none of them stands
  pub type_named : {end : ℕ} → sign_byte (get_or t at 0) ≡ false → end ≡ (word_end t (place at)).0 → at ≤ length t →
      TypeKnown t at (type_word (get_or t at 0) at end)
  unfolding sign_byte pick
  type_named n =
      type_word_lem (λ q. true≢false (rw (eq-eqb (get_or t at 0) 0x3F q) at n)) (λ q. true≢false (sign_lower q ∙ n)) (λ q. true≢false (sign_upper q ∙ n))
    where
      sign_lower : get_or t at 0 ≡ 0x78 → true ≡ sign_byte (get_or t at 0)
      sign_lower q = rw q

      sign_upper : get_or t at 0 ≡ 0x58 → true ≡ sign_byte (get_or t at 0)
      sign_upper q = rw q

-- a sign, where it is told
pub type_signed : (t : List ℕ) (at : ℕ) → sign_byte (get_or t at 0) ≡ true → IfSome (sign_told t at) (TypeKnown t at)
unfolding sign_told pick
type_signed t at y = go (ends_byte (get_or t (at + 1) 0)) refl
  where
    go : (e : Bool) → ends_byte (get_or t (at + 1) 0) ≡ e → IfSome (pick e (Some (sign_of at)) None) (TypeKnown t at)
    go true q = type_sign y q
    go false q = tt
