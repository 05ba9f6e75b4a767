-- Reading passes whole characters: from one place to another it passes some, and the characters from the first place on are these and those
-- from the second on. So the characters between the two places are the ones that were passed. Rests on ScanLaws and utf8's laws of characters.
use Rattle.std.specs.Prelude.{◌≡◌, ℕ, ◌+◌, ◌<◌, ◌≤◌, Bool, true, false, List, [], ◌∷◌, ◌++◌, length, nat_le, Option, Some, None}
use Rattle.std.proofs.Math.Path.{refl, sym, ap}
use Rattle.std.proofs.Common.{◌∙◌, append_assoc, add_assoc, lt-ltb, leb-true, leb-false, length-append}
use Rattle.std.proofs.Math.Nat.{add-zero}
use native.Mathlib.Omega.{arith}
use Rattle.utf8.specs.Choice.{pick}
use Rattle.utf8.specs.ChoiceLaws.{pick_elim}
use Rattle.utf8.specs.Utf8.{peek_at, char}
use Rattle.utf8.specs.Chars.{Ch, ch, chars_from, before, chars_of, take_while, drop_while, bytes, run_end}
use Rattle.utf8.specs.CharLaws.{peeked, ended, past_end, first, before_past, run_split}
use Rattle.letters.specs.Questions.{is_start, is_continue, is_space}
use Rattle.frame.specs.declared.TextPlace.{TextPlace}
use Rattle.frame.specs.declared.Frame.{Frame}
use Rattle.scan.specs.Characters.{is_at, width, past_at, consumed, spaces_past, is_plain, text_end}
use Rattle.scan.specs.Words.{word_seen, word_end, word_read, is_digit, number_read}
use Rattle.scan.specs.Counts.{number_count, name_count, count_after, count_read}
use Rattle.scan.specs.ScanLaws.{seen_elim, is_at_seen, number_range}
use Rattle.scan.specs.declared.CountRead.{CountRead}
use Rattle.scan.specs.declared.Numeral.{Numeral}
use Rattle.utf8.specs.declared.Char.{Char}

pub record Reached (t : List ℕ) (i j : ℕ) : Type 0 where
  pub chars : List Ch
  pub list : chars_from t i ≡ chars ++ chars_from t j
  pub ends : i + bytes chars ≡ j

bytes_append : (cs ds : List Ch) → bytes (cs ++ ds) ≡ bytes cs + bytes ds
unfolding bytes
bytes_append [] ds = omega arith
bytes_append (c ∷ cs) ds = omega (arith, bytes_append cs ds)

module _ {t : List ℕ} where
  -- nothing is passed
  pub reached_none : (i : ℕ) → Reached t i i
  unfolding bytes
  reached_none i = record { chars = []; list = refl; ends = add-zero i }

  -- some, and then others
  pub reached_then : {i j k : ℕ} → Reached t i j → Reached t j k → Reached t i k
  reached_then {i} {j} {k} a b =
      record {
        chars = a.chars ++ b.chars;
        list = a.list ∙ ap (◌++◌ a.chars) b.list ∙ sym (append_assoc a.chars b.chars (chars_from t k));
        ends = omega (arith, bytes_append a.chars b.chars, a.ends, b.ends);
      }

  -- the character that is seen
  pub reached_char : (i : ℕ) {c w : ℕ} → peek_at t i ≡ Some (char c w) → Reached t i (i + w)
  unfolding bytes
  reached_char i {c} {w} e = record { chars = ch c i w ∷ []; list = (peeked t i e).list; ends = omega arith }

-- THE CHARACTERS FROM PAST SOME are the others
after : (t : List ℕ) (cs ds : List Ch) (i : ℕ) → chars_from t i ≡ cs ++ ds → chars_from t (i + bytes cs) ≡ ds
unfolding bytes
after t [] ds i e = rw (add-zero i) e
after t (c ∷ cs) ds i e = ap (chars_from t) (sym (add_assoc i c.width (bytes cs))) ∙ after t cs ds (i + c.width) (first t i c (cs ++ ds) e).rest

module _ (t : List ℕ) where
  -- a run
  pub reached_run : (f : ℕ → Bool) (i : ℕ) → Reached t i (run_end f t i)
  unfolding run_end
  reached_run f i =
      let cs = chars_from t i in
      let e = sym (run_split f cs) in
      record { chars = take_while f cs; list = e ∙ ap (◌++◌ (take_while f cs)) (sym (after t (take_while f cs) (drop_while f cs) i e)); ends = refl }

  module _ (at : TextPlace) where
    -- an ASCII character, if it stands there
    pub reached_consumed : (c : ℕ) → c < 0x80 → Reached t at.0 (consumed t at c).at.0
    unfolding consumed
    reached_consumed c h =
        pick_elim (λ (p : TextPlace). Reached t at.0 p.0) (is_at t at c) (λ y. reached_char at.0 (is_at_seen t at c h y)) (λ _. reached_none at.0)

    -- any character
    pub reached_past : Reached t at.0 (past_at t at).0
    unfolding past_at
    reached_past =
        seen_elim (λ (n : Option Char). Reached t at.0 (at.0 + width n)) t at.0 (λ _. rw (add-zero at.0) (reached_none at.0))
        (λ c w e. reached_char at.0 e)

    -- whitespace, and literal text
    pub reached_spaces : Reached t at.0 (spaces_past t at).0
    unfolding spaces_past
    reached_spaces = reached_run is_space at.0

    pub reached_text : Reached t at.0 (text_end t at).0
    unfolding text_end
    reached_text = reached_run is_plain at.0

    -- a word
    pub reached_word : Reached t at.0 (word_end t at).0
    unfolding word_end
    reached_word =
        seen_elim (λ (n : Option Char). Reached t at.0 (word_seen t at n).0) t at.0 (λ _. reached_none at.0)
        (λ c w e.
        pick_elim (λ (p : TextPlace). Reached t at.0 p.0) (is_start c)
        (λ _. reached_then (reached_char at.0 e) (reached_run is_continue (at.0 + w))) (λ _. reached_none at.0))

    -- a number
    pub reached_number : Reached t at.0 (number_read t at).digits.end.0
    reached_number = rw (number_range t at) (reached_run is_digit at.0)

  module _ (f : Frame) (at : TextPlace) where
    -- a count
    pub reached_count : Reached t at.0 (count_read t f at).at.0
    unfolding count_read number_count name_count word_read
    reached_count = go (number_read t at).number
      where
        P : CountRead → Type 0
        P r = Reached t at.0 r.at.0

        go : (n : Option Numeral) → P (count_after t f at (number_read t at) n)
        go (Some n) =
            pick_elim P _ (λ _. reached_then (reached_number at) (reached_consumed _ 0x24 (omega arith))) (λ _. reached_number at)
        go None =
            pick_elim P _ (λ _. reached_none at.0)
            (λ _. pick_elim P _ (λ _. reached_then (reached_word at) (reached_consumed _ 0x24 (omega arith))) (λ _. reached_none at.0))

-- those that were passed stand before the place that was reached, and the next does not
taken : (t : List ℕ) (cs : List Ch) (i j : ℕ) → chars_from t i ≡ cs ++ chars_from t j → i + bytes cs ≡ j → before j (chars_from t i) ≡ cs
unfolding before bytes pick
taken t [] i j e h = before_past t j i (omega arith)
taken t (c ∷ cs) i j e h =
    let x = first t i c (cs ++ chars_from t j) e in
    let p = peeked t i x.seen in
    let w = taken t cs (i + c.width) j x.rest (omega arith) in
    rw (e, lt-ltb c.at j (omega (arith, x.place, p.some)), ← x.rest, w)

module _ {t : List ℕ} {i j : ℕ} (r : Reached t i j) where
  -- THE CHARACTERS BETWEEN THE TWO PLACES are the ones that were passed
  pub reached_chars : chars_of t i j ≡ r.chars
  reached_chars = taken t r.chars i j r.list r.ends

  -- so they and those that are left are all
  pub reached_left : length (chars_of t i j) + length (chars_from t j) ≡ length (chars_from t i)
  reached_left = rw (reached_chars) (sym (ap length r.list ∙ length-append r.chars (chars_from t j)))

  -- and none is more than a byte
  pub reached_on : i ≤ j
  reached_on = omega (arith, r.ends)

-- NO MORE CHARACTERS THAN BYTES: from a place within the text
chars_short : (t : List ℕ) (cs : List Ch) (i : ℕ) → chars_from t i ≡ cs → i ≤ length t → i + length cs ≤ length t
chars_short t [] i e h = omega arith
chars_short t (c ∷ cs) i e h =
    let x = first t i c cs e in
    let p = peeked t i x.seen in
    omega (arith, p.some, chars_short t cs (i + c.width) x.rest p.room)

before_short : (e : ℕ) (cs : List Ch) → length (before e cs) ≤ length cs
unfolding before
before_short e [] = omega arith
before_short e (c ∷ cs) =
    pick_elim (λ (l : List Ch). length l ≤ length (c ∷ cs)) _ (λ _. omega (arith, before_short e cs)) (λ _. omega arith)

-- and from any other there are none
pub few_chars : (t : List ℕ) (i e : ℕ) → length (chars_of t i e) ≤ length t
few_chars t i e = go (nat_le i (length t)) refl
  where
    go : (b : Bool) → nat_le i (length t) ≡ b → length (chars_of t i e) ≤ length t
    go true y = let h = chars_short t (chars_from t i) i refl (leb-true i (length t) y) in omega (arith, before_short e (chars_from t i))
    go false n =
        let h = ended t i (past_end t i (let l = leb-false i (length t) n in omega arith)) in
        omega (arith, before_short e (chars_from t i), ap length h)

-- so a count gives back no more than the text has bytes
pub count_given : (t : List ℕ) (f : Frame) (at : TextPlace) → (count_read t f at).given ≤ length t
unfolding count_read number_count name_count word_read
count_given t f at = go (number_read t at).number
  where
    P : CountRead → Type 0
    P r = r.given ≤ length t

    go : (n : Option Numeral) → P (count_after t f at (number_read t at) n)
    go (Some n) = pick_elim P _ (λ _. omega arith) (λ _. omega arith)
    go None =
        pick_elim P _ (λ _. omega arith) (λ _. pick_elim P _ (λ _. omega arith) (λ _. few_chars t at.0 (word_end t at).0))
