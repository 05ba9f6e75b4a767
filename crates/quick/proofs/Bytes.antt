-- Bytes tell characters: an ASCII character, a digit, an align, a word, a run. Rests on `scan`'s laws of its leaves and `utf8`'s of characters.
use Rattle.std.specs.Prelude.{None, Option, Some}
use Prim.Native.Nat.{ℕ, ◌+◌, ◌≤◌, ◌<◌}
use mathlib.Core.Path.{◌≡◌, refl, sym, ◌∙◌, ap}
use mathlib.Core.Bool.{Bool, true, false, true≢false}
use mathlib.Core.List.{List, [], ◌∷◌}
use native.Mathlib.Omega.{arith}
use borrow.Author.Tests.{eq-eqb, ne_eqb, lt-ltb, le-ltb, ltb-true, ltb-false}
use lib.Dec.{eqb, ltb}
use lib.ListN.{length, get_or, get_or-eq_default}
use Rattle.utf8.specs.Choice.{pick}
use Rattle.utf8.specs.ChoiceLaws.{not_so, within_low, within_high}
use Rattle.utf8.specs.Utf8.{peek_at}
use Rattle.utf8.specs.Chars.{Ch, ch, chars_from, chars_of, take_while, run_end}
use Rattle.utf8.specs.CharLaws.{Peeked, peeked, ended, past_end, before_more, before_past, ascii_stop, ascii_char, char_ascii, first, none_left, run_more, run_stop, run_end_lem}
use Rattle.letters.specs.Ascii.{ascii_start}
use Rattle.letters.specs.AsciiLaws.{above_space}
use Rattle.letters.specs.Questions.{is_space}
use Rattle.frame.specs.Places.{place, range_of}
use Rattle.scan.specs.Characters.{is_at, consumed}
use Rattle.scan.specs.Words.{is_digit, digits_at, number_from, number_read, word_end, word_from, is_underscore, word_read}
use Rattle.scan.specs.ScanLaws.{run_in, word_in, is_at_byte, is_at_end}
use Rattle.scan.specs.AsciiWordLaws.{byte_in, start_in, word_start}
use Rattle.scan.specs.declared.Flaw.{Flaw}
use Rattle.placeholder.specs.Parts.{is_align}
use Rattle.quick.specs.Tellings.{blank_flaw}
use Rattle.quick.specs.PartsTold.{Room, AsciiRun, align_byte, blank_word}
use Rattle.utf8.specs.declared.Char.{Char}

-- a digit is between `0` and `9`
pub digit_range : {b : ℕ} → is_digit b ≡ true → (0x30 ≤ b) × (b ≤ 0x39)
unfolding is_digit
digit_range y = (within_low 0x30 0x39 y, within_high 0x30 0x39 y)

module _ (t : List ℕ) (i : ℕ) where
  module _ (c : ℕ) (p : 0 < c) (l : c < 0x80) where
    -- an ASCII character is at a place exactly where its byte is
    pub at_byte : is_at t (place i) c ≡ eqb (get_or t i 0) c
    at_byte = go (ltb i (length t)) refl
      where
        go : (x : Bool) → ltb i (length t) ≡ x → is_at t (place i) c ≡ eqb (get_or t i 0) c
        go true e = is_at_byte t (place i) c l (ltb-true i (length t) e)
        go false e =
            let h = ltb-false i (length t) e in
            is_at_end t (place i) c h ∙ sym (ne_eqb (get_or t i 0) c (λ q. omega (arith, get_or-eq_default t 0 h)))

    -- and there it is passed
    pub has : get_or t i 0 ≡ c → consumed t (place i) c ≡ record { ate = true; at = place (i + 1) }
    unfolding consumed pick
    has e = rw (at_byte, eq-eqb (get_or t i 0) c e)

    -- and elsewhere not
    pub lacks : (get_or t i 0 ≡ c → ⊥) → consumed t (place i) c ≡ record { ate = false; at = place i }
    unfolding consumed pick
    lacks n = rw (at_byte, ne_eqb (get_or t i 0) c n)

  -- an align is told by its byte
  pub align_byte_lem : is_align t (place i) ≡ align_byte (get_or t i 0)
  unfolding is_align align_byte
  align_byte_lem =
      rw (
        at_byte 0x3C (omega arith) (omega arith),
        at_byte 0x3E (omega arith) (omega arith),
        at_byte 0x5E (omega arith) (omega arith),
      )

  -- a byte that is a digit is a character of its own
  pub digit_seen : is_digit (get_or t i 0) ≡ true → Peeked t i (get_or t i 0) 1
  digit_seen y =
      let r = digit_range y in
      peeked t i (ascii_char t i (byte_in t i (omega arith)) (omega arith))

  -- where the byte is no digit, no digit stands
  pub no_digit : is_digit (get_or t i 0) ≡ false → (digits_at t (place i) ≡ []) × (run_end is_digit t i ≡ i)
  unfolding digits_at take_while pick
  no_digit n = go (peek_at t i) refl
    where
      go : (s : Option Char) → peek_at t i ≡ s → (digits_at t (place i) ≡ []) × (run_end is_digit t i ≡ i)
      go None e = (simp (ended t i e), run_end_lem is_digit t i e)
      go (Some seen) e = (simp (p.list, z), run_stop is_digit p z)
        where
          p : Peeked t i seen.code seen.width
          p = peeked t i e

          z : is_digit seen.code ≡ false
          z =
              not_so (is_digit seen.code)
              (λ y. true≢false (sym y ∙ ap is_digit (sym (char_ascii t i e (omega (arith, digit_range y))).0) ∙ n))

  -- nor a number
  pub no_number : is_digit (get_or t i 0) ≡ false →
      number_read t (place i) ≡ record { number = None; digits = range_of (place i) (place i); flaw = Flaw.Clean }
  unfolding number_read number_from pick
  no_number n = rw ((no_digit n).1, eq-eqb i i refl)

-- a word, with the fault where it is `_`
pub word_told : (t : List ℕ) (at end : ℕ) → end ≡ (word_end t (place at)).0 →
    word_read t (place at) ≡ record { word = range_of (place at) (place end); flaw = blank_flaw (blank_word (get_or t at 0) at end) at end }
unfolding word_read is_underscore blank_word blank_flaw
word_told t at end e = rw (← e, at_byte t at 0x5F (omega arith) (omega arith))

module _ (f : ℕ → Bool) (t : List ℕ) where
  -- a run that has ended is at its end
  pub run_again : (i : ℕ) → run_end f t (run_end f t i) ≡ run_end f t i
  run_again i = go (chars_from t i) i refl
    where
      go : (cs : List Ch) (i : ℕ) → chars_from t i ≡ cs → run_end f t (run_end f t i) ≡ run_end f t i
      go [] i e = ap (run_end f t) (run_end_lem f t i (past_end t i (none_left t i e)))
      go (c ∷ cs) i e = by (go cs (i + c.width) (first t i c cs e).rest) (f c.code) refl
        where
          p : Peeked t i c.code c.width
          p = peeked t i (first t i c cs e).seen

          by : run_end f t (run_end f t (i + c.width)) ≡ run_end f t (i + c.width) → (x : Bool) → f c.code ≡ x →
              run_end f t (run_end f t i) ≡ run_end f t i
          by r true y = rw (run_more f p y) at r
          by r false n = ap (run_end f t) (run_stop f p n)

module _ {t : List ℕ} {at : ℕ} where
  -- after whitespace reading is within the text
  pub room_spaces : {from : ℕ} → length t ≤ 65535 → from ≤ length t → at ≡ run_end is_space t from → Room t at
  room_spaces {from} r h e = record { within = rw e (run_in is_space t from h); small = r }

  -- and after a byte that is not 0
  pub room_past : {c : ℕ} → Room t at → get_or t at 0 ≡ c → 0 < c → Room t (at + 1)
  room_past r e p = let h = byte_in t at (omega arith) in record { within = omega arith; small = r.small }

  -- and after a word
  pub room_word : {end : ℕ} → Room t at → end ≡ (word_end t (place at)).0 → Room t end
  room_word r e = record { within = rw e (word_in t (place at) r.within); small = r.small }

-- a word of which nothing was passed, or of which ASCII letters were, ends where it does
pub word_anew : (t : List ℕ) (at : ℕ) {known : ℕ} → known ≡ at → (word_from t (place at) known).0 ≡ (word_end t (place at)).0
unfolding word_from pick
word_anew t at {known} e = simp (le-ltb at known (omega arith))

pub word_further : (t : List ℕ) (at : ℕ) {b known : ℕ} → b ≡ get_or t at 0 → b < 0x80 → ascii_start b ≡ true → AsciiRun t (at + 1) known →
    (word_from t (place at) known).0 ≡ (word_end t (place at)).0
unfolding word_from pick
word_further t at {b} {known} e l y r = rw (lt-ltb at known (omega (arith, r.on))) (r.run ∙ sym (word_start t at e l y))

-- CHARACTERS OF ASCII, one a byte: one more
pub ascii_one : (t : List ℕ) (i : ℕ) → i < length t → get_or t i 0 < 0x80 → (e : ℕ) → i + 1 ≤ e → i + 1 + length (chars_of t (i + 1) e) ≡ i + length (chars_of t i e)
ascii_one t i h l e m =
    let p : length (chars_of t i e) ≡ length (ch (get_or t i 0) i 1 ∷ chars_of t (i + 1) e) = ap length (before_more t e i (omega (arith, m)) (ascii_char t i h l)) in
    omega (arith, p)

-- none between a place and itself
pub no_chars : (t : List ℕ) (i : ℕ) → length (chars_of t i i) ≡ 0
no_chars t i = ap length (before_past t i i (omega arith))

-- a word from its first letter on
pub start_chars : (t : List ℕ) (at : ℕ) {b to : ℕ} → b ≡ get_or t at 0 → b < 0x80 → ascii_start b ≡ true → AsciiRun t (at + 1) to → at + length (chars_of t at to) ≡ to
start_chars t at {b} {to} e l y r =
    let z : ascii_start (get_or t at 0) ≡ true = rw e at y in
    let h = byte_in t at (start_in (get_or t at 0) z) in
    omega (arith, ascii_one t at h (omega (arith, e, l)) to r.on, r.chars to (omega arith), no_chars t to)

-- an ASCII character above the space is no whitespace
pub no_space : (t : List ℕ) (at : ℕ) {b : ℕ} → b ≡ get_or t at 0 → 0x20 < b → b < 0x80 → run_end is_space t at ≡ at
no_space t at {b} e l h =
    let low : get_or t at 0 < 0x80 = omega (arith, e, h) in
    let high : 0x20 < get_or t at 0 = omega (arith, e, l) in
    ascii_stop is_space t at (byte_in t at (omega (arith, high))) low (above_space (get_or t at 0) high low)
