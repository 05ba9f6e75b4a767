-- Laws of the leaves for their callers: where each stops, and that it stays within the text.
-- Rests on Characters, Words and Counts, and on the laws of characters and runs of `utf8`.
use Rattle.std.specs.Prelude.{◌≡◌, ℕ, ◌+◌, ◌<◌, ◌≤◌, Bool, true, false, List, [], ◌∷◌, length, ◌==◌, slice_index, Option, Some, None}
use Rattle.std.proofs.Math.Path.{refl}
use Rattle.std.proofs.Common.{sym, ◌∙◌, true≢false}
use Rattle.std.proofs.Math.Nat.{le_trans}
use native.Mathlib.Omega.{arith}
use borrow.Author.Tests.{eqb-true, eq-eqb, ne_eqb}
use Rattle.utf8.specs.Choice.{pick}
use Rattle.utf8.specs.ChoiceLaws.{pick_elim}
use Rattle.utf8.specs.Utf8.{peek_at, char}
use Rattle.utf8.specs.Chars.{Ch, chars_from, take_while, bytes, run_end}
use Rattle.utf8.specs.CharLaws.{peeked, seen_in, past_end, end_past, ascii_char, char_ascii, spelled, run_more}
use Rattle.letters.specs.Questions.{is_start, is_continue, is_space}
use Rattle.frame.specs.Places.{place, range_of}
use Rattle.frame.specs.declared.TextPlace.{TextPlace}
use Rattle.frame.specs.declared.Frame.{Frame}
use Rattle.scan.specs.Characters.{sees, is_at, width, past_at, consumed, spaces_past, is_plain, text_end}
use Rattle.scan.specs.Words.{word_seen, word_end, word_read, is_digit, number_from, number_read}
use Rattle.scan.specs.Counts.{number_count, name_count, count_after, count_read}
use Rattle.scan.specs.declared.Flaw.{Flaw}
use Rattle.scan.specs.declared.NumberRead.{NumberRead}
use Rattle.scan.specs.declared.Numeral.{Numeral}
use Rattle.scan.specs.declared.CountRead.{CountRead}
use Rattle.utf8.specs.declared.Char.{Char}

-- what holds of nothing at the end, and of each character that may be seen, holds of what is seen
pub seen_elim : (P : Option Char → Type 0) (t : List ℕ) (i : ℕ) → (peek_at t i ≡ None → P None) →
    ((c w : ℕ) → peek_at t i ≡ Some (char c w) → P (Some (char c w))) → P (peek_at t i)
seen_elim P t i none some = go (peek_at t i) refl
  where
    go : (n : Option Char) → peek_at t i ≡ n → P n
    go None e = none e
    go (Some seen) e = some seen.code seen.width e

-- part of some characters takes no more bytes than all
taken_bytes : (f : ℕ → Bool) (cs : List Ch) → bytes (take_while f cs) ≤ bytes cs
unfolding take_while bytes
taken_bytes f [] = omega arith
taken_bytes f (c ∷ cs) =
    pick_elim (λ (l : List Ch). bytes l ≤ c.width + bytes cs) (f c.code) (λ _. omega (arith, taken_bytes f cs)) (λ _. omega arith)

module _ (f : ℕ → Bool) (t : List ℕ) (i : ℕ) where
  -- a run goes forward
  pub run_on : i ≤ run_end f t i
  unfolding run_end
  run_on = omega arith

  -- a run ends within the text
  pub run_in : i ≤ length t → run_end f t i ≤ length t
  unfolding run_end
  run_in h = omega (arith, taken_bytes f (chars_from t i), spelled t (chars_from t i) i refl h)

-- a character that is not ASCII is no brace
pub plain_high : (c : ℕ) → 0x80 ≤ c → is_plain c ≡ true
unfolding is_plain pick
plain_high c h = simp (ne_eqb c 0x7B (omega arith), ne_eqb c 0x7D (omega arith))

-- a run passes a character that passes the test
pub run_some : (f : ℕ → Bool) (t : List ℕ) (i : ℕ) {c w : ℕ} → peek_at t i ≡ Some (char c w) → f c ≡ true → i < run_end f t i
run_some f t i {c} {w} e y = let p = peeked t i e in omega (arith, run_more f p y, run_on f t (i + w))

module _ (t : List ℕ) (at : TextPlace) where
  module _ (c : ℕ) where
    -- a character that is at a place is within the text
    pub is_at_in : is_at t at c ≡ true → at.0 < length t
    unfolding is_at
    is_at_in =
        seen_elim (λ (n : Option Char). sees c n ≡ true → at.0 < length t) t at.0 (λ e y. absurd (true≢false (sym y))) (λ x w e y. seen_in t at.0 e)

    -- an ASCII character that is at a place is seen there, one byte wide
    pub is_at_seen : c < 0x80 → is_at t at c ≡ true → peek_at t at.0 ≡ Some (char c 1)
    unfolding is_at
    is_at_seen l =
        seen_elim (λ (n : Option Char). sees c n ≡ true → n ≡ Some (char c 1)) t at.0 (λ e y. absurd (true≢false (sym y)))
        (λ x w e y.
        let q = eqb-true x c y in
        let s = char_ascii t at.0 e (omega arith) in
        let o = s.1 in
        cc)

    -- a character that is seen at a place is at it
    pub seen_is_at : {w : ℕ} → peek_at t at.0 ≡ Some (char c w) → is_at t at c ≡ true
    unfolding is_at
    seen_is_at e = rw e (eq-eqb c c refl)

    -- past the end there is none
    pub is_at_end : length t ≤ at.0 → is_at t at c ≡ false
    unfolding is_at
    is_at_end h = rw (past_end t at.0 h)

    -- an ASCII character is at a place exactly where its byte is
    pub is_at_byte : c < 0x80 → at.0 < length t → is_at t at c ≡ (slice_index t at.0 == c)
    is_at_byte l h = go (is_at t at c) refl (slice_index t at.0 == c) refl
      where
        go : (p : Bool) → is_at t at c ≡ p → (q : Bool) → (slice_index t at.0 == c) ≡ q → p ≡ q
        go true e true d = refl
        go false e false d = refl
        go true e false d =
            let s = char_ascii t at.0 (is_at_seen l e) l in
            sym (eq-eqb (slice_index t at.0) c s.0) ∙ d
        go false e true d =
            let b = eqb-true (slice_index t at.0) c d in
            let s = ascii_char t at.0 h (omega arith) in
            sym e ∙ seen_is_at (rw b at s)

    -- passing an ASCII character goes forward
    pub consumed_on : at.0 ≤ (consumed t at c).at.0
    unfolding consumed
    consumed_on = pick_elim (λ (p : TextPlace). at.0 ≤ p.0) (is_at t at c) (λ _. omega arith) (λ _. omega arith)

    -- and stays within the text
    pub consumed_in : at.0 ≤ length t → (consumed t at c).at.0 ≤ length t
    unfolding consumed
    consumed_in h =
        pick_elim (λ (p : TextPlace). p.0 ≤ length t) (is_at t at c) (λ y. omega (arith, is_at_in y)) (λ _. h)

    -- what was passed is one byte
    pub consumed_some : (consumed t at c).ate ≡ true → (consumed t at c).at.0 ≡ at.0 + 1
    unfolding consumed pick
    consumed_some y = rw y

    -- what was passed is the character
    pub consumed_is : (consumed t at c).ate ≡ is_at t at c
    unfolding consumed
    consumed_is = refl

    -- where it was not there, reading stands where it stood
    pub consumed_none : (consumed t at c).ate ≡ false → (consumed t at c).at ≡ at
    unfolding consumed pick
    consumed_none y = rw y

  -- past a character goes forward
  pub past_on : at.0 ≤ (past_at t at).0
  unfolding past_at
  past_on = omega arith

  -- and stays within the text
  pub past_in : at.0 ≤ length t → (past_at t at).0 ≤ length t
  unfolding past_at
  past_in h =
      seen_elim (λ (n : Option Char). at.0 + width n ≤ length t) t at.0 (λ _. omega arith) (λ c w e. (peeked t at.0 e).room)

  -- within the text it passes something
  pub past_some : at.0 < length t → at.0 < (past_at t at).0
  unfolding past_at
  past_some h =
      seen_elim (λ (n : Option Char). at.0 < at.0 + width n) t at.0 (λ e. omega (arith, end_past t at.0 e))
      (λ c w e. omega (arith, (peeked t at.0 e).some))

  -- past whitespace goes forward
  pub spaces_on : at.0 ≤ (spaces_past t at).0
  unfolding spaces_past
  spaces_on = run_on is_space t at.0

  -- and stays within the text
  pub spaces_in : at.0 ≤ length t → (spaces_past t at).0 ≤ length t
  unfolding spaces_past
  spaces_in h = run_in is_space t at.0 h

  -- literal text goes forward
  pub text_on : at.0 ≤ (text_end t at).0
  unfolding text_end
  text_on = run_on is_plain t at.0

  -- and stays within the text
  pub text_in : at.0 ≤ length t → (text_end t at).0 ≤ length t
  unfolding text_end
  text_in h = run_in is_plain t at.0 h

  -- a character that is no brace is literal text
  pub text_some : {c w : ℕ} → peek_at t at.0 ≡ Some (char c w) → is_plain c ≡ true → at.0 < (text_end t at).0
  unfolding text_end
  text_some e y = run_some is_plain t at.0 e y

  -- a word goes forward
  pub word_on : at.0 ≤ (word_end t at).0
  unfolding word_end
  word_on =
      seen_elim (λ (n : Option Char). at.0 ≤ (word_seen t at n).0) t at.0 (λ _. omega arith)
      (λ c w e.
      pick_elim (λ (p : TextPlace). at.0 ≤ p.0) (is_start c) (λ _. omega (arith, run_on is_continue t (at.0 + w))) (λ _. omega arith))

  -- and ends within the text
  pub word_in : at.0 ≤ length t → (word_end t at).0 ≤ length t
  unfolding word_end
  word_in h =
      seen_elim (λ (n : Option Char). (word_seen t at n).0 ≤ length t) t at.0 (λ _. h)
      (λ c w e.
      pick_elim (λ (p : TextPlace). p.0 ≤ length t) (is_start c) (λ _. run_in is_continue t (at.0 + w) (peeked t at.0 e).room) (λ _. h))

  -- the bytes of a number
  pub number_range : (number_read t at).digits ≡ range_of at (place (run_end is_digit t at.0))
  unfolding number_read number_from
  number_range =
      pick_elim (λ (r : NumberRead). r.digits ≡ range_of at (place (run_end is_digit t at.0))) (at.0 == run_end is_digit t at.0)
      (λ _. refl) (λ _. refl)

  -- a number goes forward
  pub number_on : at.0 ≤ (number_read t at).digits.end.0
  number_on = rw number_range (run_on is_digit t at.0)

  -- and ends within the text
  pub number_in : at.0 ≤ length t → (number_read t at).digits.end.0 ≤ length t
  number_in h = rw number_range (run_in is_digit t at.0 h)

module _ (t : List ℕ) (n : Numeral) (at : TextPlace) (x : Flaw) where
  -- a count that is a number ends where the number does, or past its `$`
  number_count_on : at.0 ≤ (number_count t n at x).at.0
  unfolding number_count
  number_count_on =
      pick_elim (λ (r : CountRead). at.0 ≤ r.at.0) (consumed t at 0x24).ate (λ _. consumed_on t at 0x24) (λ _. omega arith)

  -- and ends within the text
  number_count_in : at.0 ≤ length t → (number_count t n at x).at.0 ≤ length t
  unfolding number_count
  number_count_in h =
      pick_elim (λ (r : CountRead). r.at.0 ≤ length t) (consumed t at 0x24).ate (λ _. consumed_in t at 0x24 h) (λ _. h)

module _ (t : List ℕ) (f : Frame) (at : TextPlace) where
  -- a count that is a name ends past its `$`, or where it began
  name_count_on : at.0 ≤ (name_count t f at).at.0
  unfolding name_count word_read
  name_count_on =
      let P : CountRead → Type 0 = λ r. at.0 ≤ r.at.0 in
      pick_elim P _ (λ _. omega arith)
      (λ _. pick_elim P _ (λ _. le_trans (word_on t at) (consumed_on t (word_end t at) 0x24)) (λ _. omega arith))

  -- and ends within the text
  name_count_in : at.0 ≤ length t → (name_count t f at).at.0 ≤ length t
  unfolding name_count word_read
  name_count_in h =
      let P : CountRead → Type 0 = λ r. r.at.0 ≤ length t in
      pick_elim P _ (λ _. h) (λ _. pick_elim P _ (λ _. consumed_in t (word_end t at) 0x24 (word_in t at h)) (λ _. h))

  -- a count goes forward
  pub count_on : at.0 ≤ (count_read t f at).at.0
  unfolding count_read
  count_on = go (number_read t at).number
    where
      go : (n : Option Numeral) → at.0 ≤ (count_after t f at (number_read t at) n).at.0
      go (Some n) = le_trans (number_on t at) (number_count_on t n (number_read t at).digits.end (number_read t at).flaw)
      go None = name_count_on

  -- and ends within the text
  pub count_in : at.0 ≤ length t → (count_read t f at).at.0 ≤ length t
  unfolding count_read
  count_in h = go (number_read t at).number
    where
      go : (n : Option Numeral) → (count_after t f at (number_read t at) n).at.0 ≤ length t
      go (Some n) = number_count_in t n (number_read t at).digits.end (number_read t at).flaw (number_in t at h)
      go None = name_count_in h
