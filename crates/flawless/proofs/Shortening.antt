-- A short spec, told by its bytes, is the spec that is read. Rests on Closing and on quick's Parts, Numbers and Specs.
use Rattle.std.specs.Prelude.{Option, None, Some, IfSome}
use Prim.Native.Nat.{ℕ, ◌+◌, ◌≤◌, ◌<◌}
use mathlib.Core.Path.{◌≡◌, refl, sym, ◌∙◌, ap}
use mathlib.Core.Bool.{Bool, true, false, true≢false}
use mathlib.Core.List.{List}
use native.Mathlib.Omega.{arith}
use borrow.Author.Tests.{ne_eqb}
use lib.ListN.{length, get_or}
use Rattle.utf8.specs.Choice.{pick, within}
use Rattle.utf8.specs.ChoiceLaws.{not_so, either_true, in_within}
use Rattle.utf8.specs.CharLaws.{ascii_char}
use Rattle.letters.specs.Ascii.{ascii_start, ascii_continue}
use Rattle.letters.specs.AsciiLaws.{no_start}
use Rattle.letters.proofs.SmallLetters.{continue_low}
use Rattle.frame.specs.Places.{place}
use Rattle.scan.specs.Words.{is_digit, word_end}
use Rattle.scan.specs.AsciiWordLaws.{byte_in, start_in, word_start, word_none, continue_stop}
use Rattle.scan.specs.declared.NumberRead.{NumberRead}
use Rattle.scan.specs.declared.Consumed.{Consumed}
use Rattle.placeholder.specs.Parts.{align_read, sign_read}
use Rattle.placeholder.specs.declared.Align.{Align}
use Rattle.placeholder.specs.declared.Sign.{Sign}
use Rattle.quick.specs.declared.NumberPart.{NumberPart}
use Rattle.quick.specs.declared.CountPart.{CountPart}
use Rattle.quick.specs.declared.SpecTold.{SpecTold}
use Rattle.quick.specs.declared.TypeTold.{TypeTold}
use Rattle.quick.specs.declared.WordTold.{WordTold}
use Rattle.quick.specs.Tellings.{back_of}
use Rattle.quick.specs.PartsTold.{Room, fixed_count, count_none, align_byte, sign_byte, blank_word, type_word, type_none, WordKnown, NumberTold, FillTold, WidthTold, PrecisionTold, TypeKnown, SpecKnown}
use Rattle.quick.proofs.Bytes.{lacks, digit_range, no_chars}
use Rattle.quick.proofs.Numbers.{spelt_none, spelt_more, spelt_stop}
use Rattle.quick.proofs.Parts.{count_fixed, width_count, width_none, precision_none, precision_width, fill_none, type_named}
use Rattle.quick.proofs.Specs.{Marks, spec_known}
use Rattle.flawless.specs.Closed.{SpecEnds}
use Rattle.flawless.specs.Short.{ShortWidth, ShortPrecision, short_spec, ShortClosed, ShortTold}
use Rattle.flawless.proofs.Closing.{no_blank, type_none_lem}

-- A BYTE THAT IS NO MARK: no align, no sign, neither `#` nor `0`
record Unmarked (b : ℕ) : Type 0 where
  pub left : b ≡ 0x3C → ⊥
  pub right : b ≡ 0x3E → ⊥
  pub center : b ≡ 0x5E → ⊥
  pub plus : b ≡ 0x2B → ⊥
  pub minus : b ≡ 0x2D → ⊥
  pub hash : b ≡ 0x23 → ⊥
  pub flag : b ≡ 0x30 → ⊥

-- what counts begin with, a dot
dot_unmarked : {b : ℕ} → b ≡ 0x2E → Unmarked b
dot_unmarked e =
    record {
      left = λ q. omega (arith, e, q);
      right = λ q. omega (arith, e, q);
      center = λ q. omega (arith, e, q);
      plus = λ q. omega (arith, e, q);
      minus = λ q. omega (arith, e, q);
      hash = λ q. omega (arith, e, q);
      flag = λ q. omega (arith, e, q);
    }

-- or a digit that is not `0`
digit_unmarked : {b : ℕ} → 0x31 ≤ b → b ≤ 0x39 → Unmarked b
digit_unmarked l h =
    record {
      left = λ q. omega (arith, h, q);
      right = λ q. omega (arith, h, q);
      center = λ q. omega (arith, h, q);
      plus = λ q. omega (arith, l, q);
      minus = λ q. omega (arith, l, q);
      hash = λ q. omega (arith, l, q);
      flag = λ q. omega (arith, l, q);
    }

-- what a word begins with
not_start : (c : ℕ) → ascii_start c ≡ false → {b : ℕ} → ascii_start b ≡ true → b ≡ c → ⊥
not_start c n y q = true≢false (sym y ∙ ap ascii_start q ∙ n)

start_unmarked : {b : ℕ} → ascii_start b ≡ true → Unmarked b
unfolding ascii_start within
start_unmarked y =
    record {
      left = not_start 0x3C refl y;
      right = not_start 0x3E refl y;
      center = not_start 0x5E refl y;
      plus = not_start 0x2B refl y;
      minus = not_start 0x2D refl y;
      hash = not_start 0x23 refl y;
      flag = not_start 0x30 refl y;
    }

-- where it stands, no mark is read
module _ (t : List ℕ) (at : ℕ) (u : Unmarked (get_or t at 0)) where
  abbrev here : Consumed
  here = record { ate = false; at = place at }

  no_align_lem : record { align = Align.Unknown; at = place at } ≡ align_read t (place at)
  unfolding align_read pick
  no_align_lem =
      rw (
        lacks t at 0x3C (omega arith) (omega arith) u.left,
        lacks t at 0x3E (omega arith) (omega arith) u.right,
        lacks t at 0x5E (omega arith) (omega arith) u.center,
      )

  no_sign_lem : record { sign = Sign.Absent; at = place at } ≡ sign_read t (place at)
  unfolding sign_read pick
  no_sign_lem = rw (lacks t at 0x2B (omega arith) (omega arith) u.plus, lacks t at 0x2D (omega arith) (omega arith) u.minus)

  unmarked : Marks t at (record { align = Align.Unknown; at = place at }) (record { sign = Sign.Absent; at = place at }) here here
  unmarked =
      record {
        align = no_align_lem;
        sign = no_sign_lem;
        hash = sym (lacks t at 0x23 (omega arith) (omega arith) u.hash);
        flag = sym (lacks t at 0x30 (omega arith) (omega arith) u.flag);
      }

-- A SPEC WITHOUT FILL OR MARKS is what its parts tell
module _ {t : List ℕ} {at word given : ℕ} {w p : CountPart} {k : TypeTold} where
  short_known : Unmarked (get_or t at 0) → FillTold t at at → WidthTold t at word w → given ≡ back_of t at word w → PrecisionTold t w.end 0 p → TypeKnown t p.end k →
      SpecKnown t at (short_spec at word w p k given)
  short_known u f wi g pr ty = spec_known (unmarked t at u) f wi g pr (omega arith) ty (λ z. absurd (true≢false (sym z)))

  -- and ends at its closing brace
  short_ends : w.blank ≡ false → k.blank ≡ false → get_or t k.end 0 ≡ 0x7D → SpecEnds t (short_spec at word w p k given)
  short_ends a b c = record { wide = a; named = b; brace = c }

-- an ASCII character with no align behind it is no fill
no_fill_lem : (t : List ℕ) (at : ℕ) → 0 < get_or t at 0 → get_or t at 0 < 0x80 → align_byte (get_or t (at + 1) 0) ≡ false → FillTold t at at
no_fill_lem t at p l n = fill_none (ascii_char t at (byte_in t at p) l) n

-- what is no align
not_align : {b : ℕ} → (b ≡ 0x3C → ⊥) → (b ≡ 0x3E → ⊥) → (b ≡ 0x5E → ⊥) → align_byte b ≡ false
unfolding align_byte pick
not_align {b} x y z = rw (ne_eqb b 0x3C x, ne_eqb b 0x3E y, ne_eqb b 0x5E z)

unmarked_align : {b : ℕ} → Unmarked b → align_byte b ≡ false
unmarked_align u = not_align u.left u.right u.center

digit_align : (b : ℕ) → is_digit b ≡ true → align_byte b ≡ false
digit_align b y = let r = digit_range y in not_align (λ q. omega (arith, r, q)) (λ q. omega (arith, r, q)) (λ q. omega (arith, r, q))

-- a digit that is not `0`
pub digit_some : (b : ℕ) → 0x31 ≤ b → b ≤ 0x39 → is_digit b ≡ true
unfolding is_digit
digit_some b l h = in_within (omega (arith, l)) h

-- A NUMBER behind whose first digit an align stands has no other
module _ {t : List ℕ} {at : ℕ} (r : Room t at) (d : is_digit (get_or t at 0) ≡ true) {p : NumberPart} (n : NumberTold t at p) where
  one_digit : is_digit (get_or t (at + 1) 0) ≡ false → p.end ≡ at + 1
  one_digit z =
      let one = spelt_stop (spelt_more (spelt_none r) (omega arith) refl d) d z in
      ap (λ (x : NumberRead). x.digits.end.0) (sym n.read ∙ one.read)

  -- so none stands there, where none stands at its end
  number_align : align_byte (get_or t p.end 0) ≡ false → align_byte (get_or t (at + 1) 0) ≡ false
  number_align e = go (is_digit (get_or t (at + 1) 0)) refl
    where
      go : (x : Bool) → is_digit (get_or t (at + 1) 0) ≡ x → align_byte (get_or t (at + 1) 0) ≡ false
      go true y = digit_align (get_or t (at + 1) 0) y
      go false z = rw (one_digit z) at e

-- between a place and itself nothing is given back, nor where a number stands
back_none : (t : List ℕ) (at : ℕ) → back_of t at at (count_none at) ≡ 0
unfolding back_of pick
back_none t at = no_chars t at

back_number : (t : List ℕ) (at word : ℕ) (n : NumberPart) → back_of t at word (fixed_count n) ≡ 0
unfolding back_of pick
back_number t at word n = refl

-- COUNTS ALONE, with a closing brace behind them
module _ {t : List ℕ} {at : ℕ} (r : Room t at) where
  -- the precision, where it is a number
  module _ {i : ℕ} {p : NumberPart} (n : NumberTold t (i + 1) p) (dot : get_or t i 0 ≡ 0x2E) (d : is_digit (get_or t (i + 1) 0) ≡ true)
      (brace : get_or t p.end 0 ≡ 0x7D) where
    told_precision : PrecisionTold t i 0 (fixed_count p)
    told_precision =
        let g = count_fixed n (λ q. omega (arith, brace, q)) in
        let range = digit_range d in
        precision_width dot (λ q. omega (arith, range, q)) (width_count {word = 0} g) g.whole g.some

  -- no width before the dot
  module _ {p : NumberPart} (n : NumberTold t (at + 1) p) (dot : get_or t at 0 ≡ 0x2E) (d : is_digit (get_or t (at + 1) 0) ≡ true)
      (brace : get_or t p.end 0 ≡ 0x7D) where
    word_here : at ≡ (word_end t (place at)).0
    word_here = sym (word_none t at refl (omega (arith, dot)) (no_start (get_or t at 0) (omega (arith, dot))))

    dot_digit : is_digit (get_or t at 0) ≡ false
    dot_digit = not_so (is_digit (get_or t at 0)) (λ y. omega (arith, digit_range y, dot))

    no_width : WidthTold t at at (count_none at)
    no_width =
        rw (no_blank (get_or t at 0) at at (λ _ q. omega (arith, q))) at
        (width_none dot_digit word_here (λ l _. omega (arith, l)) r.within)

    dotted : SpecKnown t at (short_spec at at (count_none at) (fixed_count p) (type_none p.end) 0)
    dotted =
        short_known (dot_unmarked dot) (no_fill_lem t at (omega (arith, dot)) (omega (arith, dot)) (digit_align (get_or t (at + 1) 0) d)) no_width (sym (back_none t at)) (told_precision n dot d brace)
        (type_none_lem brace n.inside)

  -- a width
  module _ {w : NumberPart} (n : NumberTold t at w) (l : 0x31 ≤ get_or t at 0) (h : get_or t at 0 ≤ 0x39) where
    digit : is_digit (get_or t at 0) ≡ true
    digit = digit_some (get_or t at 0) l h

    told_width : (get_or t w.end 0 ≡ 0x24 → ⊥) → WidthTold t at at (fixed_count w)
    told_width x = width_count (count_fixed n x)

    width_fill : align_byte (get_or t w.end 0) ≡ false → FillTold t at at
    width_fill e = no_fill_lem t at (omega (arith, l)) (omega (arith, h)) (number_align r digit n e)

    -- alone
    widened : get_or t w.end 0 ≡ 0x7D → SpecKnown t at (short_spec at at (fixed_count w) (count_none w.end) (type_none w.end) 0)
    widened brace =
        short_known (digit_unmarked l h) (width_fill (not_align (λ q. omega (arith, brace, q)) (λ q. omega (arith, brace, q)) (λ q. omega (arith, brace, q))))
        (told_width (λ q. omega (arith, brace, q))) (sym (back_number t at at w)) (precision_none (λ q. omega (arith, brace, q)) n.inside) (type_none_lem brace n.inside)

    -- and a precision
    widened_precise : {p : NumberPart} → NumberTold t (w.end + 1) p → get_or t w.end 0 ≡ 0x2E → is_digit (get_or t (w.end + 1) 0) ≡ true →
        get_or t p.end 0 ≡ 0x7D → SpecKnown t at (short_spec at at (fixed_count w) (fixed_count p) (type_none p.end) 0)
    widened_precise m dot d brace =
        short_known (digit_unmarked l h) (width_fill (unmarked_align (dot_unmarked dot))) (told_width (λ q. omega (arith, dot, q))) (sym (back_number t at at w))
        (told_precision m dot d brace) (type_none_lem brace m.inside)

  -- either
  pub counts_told : {w p : CountPart} → ShortWidth t at w → ShortPrecision t w.end p → get_or t p.end 0 ≡ 0x7D → ShortTold t at (short_spec at at w p (type_none p.end) 0)
  counts_told (ShortWidth.none dot) (ShortPrecision.none other) brace = absurd (other dot)
  counts_told (ShortWidth.none dot) (ShortPrecision.number n _ d) brace =
      record { known = dotted n dot d brace; ends = short_ends refl refl brace; wide = refl; precise = refl }
  counts_told (ShortWidth.number m l h) (ShortPrecision.none other) brace =
      record { known = widened m l h brace; ends = short_ends refl refl brace; wide = refl; precise = refl }
  counts_told (ShortWidth.number m l h) (ShortPrecision.number n dot d) brace =
      record { known = widened_precise m l h n dot d brace; ends = short_ends refl refl brace; wide = refl; precise = refl }

-- A WORD ALONE, with a closing brace behind it
module _ {t : List ℕ} {at b : ℕ} (r : Room t at) (e : b ≡ get_or t at 0) (y : ascii_start b ≡ true) {w : WordTold} (k : WordKnown t at w) where
  low : b < 0x80
  unfolding ascii_continue
  low = continue_low b (rw (y, either_true (within b 0x30 0x39)))

  -- an ASCII character behind its first letter, which continues no word, ends it
  stops : (c : ℕ) → ascii_continue c ≡ false → c < 0x80 → (c ≡ 0x7D → ⊥) → get_or t w.end 0 ≡ 0x7D → get_or t (at + 1) 0 ≡ c → ⊥
  stops c n l x brace q =
      let z : ascii_continue (get_or t (at + 1) 0) ≡ false = rw q n in
      let one : w.end ≡ at + 1 = k.ends ∙ word_start t at e low y ∙ continue_stop t (at + 1) refl (omega (arith, q, l)) (λ _. z) in
      let here : get_or t (at + 1) 0 ≡ 0x7D = rw one at brace in
      x (omega (arith, q, here))

  word_fill : get_or t w.end 0 ≡ 0x7D → FillTold t at at
  unfolding ascii_continue ascii_start within
  word_fill brace =
      no_fill_lem t at (omega (arith, e, start_in b y)) (omega (arith, e, low))
      (not_align (stops 0x3C refl (omega arith) (λ q. omega (arith, q)) brace) (stops 0x3E refl (omega arith) (λ q. omega (arith, q)) brace)
      (stops 0x5E refl (omega arith) (λ q. omega (arith, q)) brace))

  word_digit : is_digit (get_or t at 0) ≡ false
  word_digit = not_so (is_digit (get_or t at 0)) (λ z. true≢false (sym y ∙ no_start b (omega (arith, digit_range z, e))))

  word_dot : get_or t at 0 ≡ 0x2E → ⊥
  unfolding ascii_start within
  word_dot q = not_start 0x2E refl y (e ∙ q)

  module _ (s : sign_byte b ≡ false) (u : b ≡ 0x5F → ⊥) {g : ℕ} (given : g ≡ back_of t at w.end (count_none at)) where
    blank : blank_word b at w.end ≡ false
    blank = no_blank b at w.end (λ q _. u q)

    word_known : get_or t w.end 0 ≡ 0x7D → SpecKnown t at (short_spec at w.end (count_none at) (count_none at) (type_word b at w.end) g)
    word_known brace =
        short_known (rw e at (start_unmarked y)) (word_fill brace)
        (rw (← e, blank) at (width_none word_digit k.ends (λ _ q. omega (arith, brace, q)) r.within))
        given (precision_none word_dot r.within) (rw (← e) at (type_named (rw e at s) k.ends r.within))

    pub word_told : get_or t w.end 0 ≡ 0x7D → ShortTold t at (short_spec at w.end (count_none at) (count_none at) (type_word b at w.end) g)
    word_told brace = record { known = word_known brace; ends = short_ends refl blank brace; wide = refl; precise = refl }

-- where they are told at all
pub counts_closed : {t : List ℕ} {at : ℕ} {w p : CountPart} {k : TypeTold} (o : Option SpecTold) → Room t at → ShortWidth t at w → ShortPrecision t w.end p → k ≡ type_none p.end →
    IfSome o (ShortClosed t at at w p k 0) → IfSome o (ShortTold t at)
counts_closed None r a b e c = tt
counts_closed (Some s) r a b e c = rw (c.parts, e) (counts_told r a b (rw e at c.brace))

pub word_closed : {t : List ℕ} {at b : ℕ} (o : Option SpecTold) (r : Room t at) (e : b ≡ get_or t at 0) (y : ascii_start b ≡ true) {w : WordTold} (k : WordKnown t at w) →
    sign_byte b ≡ false → (b ≡ 0x5F → ⊥) → {g : ℕ} → g ≡ back_of t at w.end (count_none at) → {m n : CountPart} → m ≡ count_none at → n ≡ count_none at →
    {x : TypeTold} → x ≡ type_word b at w.end → IfSome o (ShortClosed t at w.end m n x g) → IfSome o (ShortTold t at)
word_closed None r e y k s u g p q z c = tt
word_closed (Some _) r e y k s u g p q z c = rw (c.parts, p, q, z) (word_told r e y k s u g (rw z at c.brace))

-- A WIDTH ends within the text
pub width_inside : {t : List ℕ} {at : ℕ} {p : CountPart} → Room t at → ShortWidth t at p → p.end ≤ length t
width_inside r (ShortWidth.none dot) = r.within
width_inside r (ShortWidth.number n l h) = n.inside
