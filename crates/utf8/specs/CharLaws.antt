-- Laws of characters, places and runs: what stands at a place is the list of characters from there, and the place after some
-- characters is their bytes further on. Rests on Chars and DecodeLaws.
use Rattle.std.specs.Prelude.{ℕ, zero, suc, pred, ◌+◌, ◌-◌, ◌≤◌, ◌<◌, ◌≡◌, Bool, true, false, ltb, eqb, length, get_or, drop, Option, Some, None}
use Rattle.std.proofs.Math.Path.{refl}
use Rattle.std.proofs.Common.{sym, ◌∙◌, ap, true≢false, add-zero, add_assoc, suc-add, add-suc, arith, add-one, length-drop, drop_of_length-le, drop-drop}
use mathlib.Core.List.{List, [], ◌∷◌, ◌++◌}
use borrow.Author.Tests.{lt-ltb, le-ltb, ltb-true, ltb-false}
use Rattle.utf8.specs.Choice.{pick}
use Rattle.utf8.specs.ChoiceLaws.{pick_elim}
use Rattle.utf8.specs.Utf8.{sequence_at, char_of, decode, peek_at, char}
use Rattle.utf8.specs.DecodeLaws.{Wide, decode_fitting, decode_sequence, sequence_bytes, ascii_sequence, char_byte, char_wide}
use Rattle.utf8.specs.Chars.{Ch, ch, leads, chars_at, chars_from, before, take_while, drop_while, bytes, run_end}
use Rattle.utf8.specs.declared.Char.{Char}

-- the bytes that belong to the character before are dropped
skip : (p k : ℕ) (s : List ℕ) → chars_at p k s ≡ chars_at (p + k) 0 (drop k s)
unfolding chars_at
skip p zero s = rw add-zero
skip p (suc k) [] = refl
skip p (suc k) (b ∷ r) = skip (suc p) k r ∙ simp (suc-add, add-suc)

-- the characters of bytes that begin with a character: it, and those of the bytes after it
one : (p : ℕ) (s : List ℕ) {c w : ℕ} → decode s ≡ Some (char c w) → chars_at p 0 s ≡ ch c p w ∷ chars_at (p + w) 0 (drop w s)
unfolding chars_at
one p [] {c} {w} e = let h = decode_fitting [] e in absurd (omega arith)
one p (b ∷ r) {c} {w} e = ap (leads p (λ k. chars_at (suc p) k r)) e ∙ ap (◌∷◌ (ch c p w)) (go w (decode_fitting (b ∷ r) e).some)
  where
    go : (w : ℕ) → 1 ≤ w → chars_at (suc p) (pred w) r ≡ chars_at (p + w) 0 (drop w (b ∷ r))
    go zero h = absurd (omega arith)
    go (suc k) h = skip (suc p) k r ∙ simp (suc-add, add-suc)

-- what a character that was seen at a place says: it is one to four bytes wide and within the text, and the characters from
-- its place are it and those from past it
pub record Peeked (t : List ℕ) (i c w : ℕ) : Type 0 where
  pub some : 1 ≤ w
  pub most : w ≤ 4
  pub room : i + w ≤ length t
  pub list : chars_from t i ≡ ch c i w ∷ chars_from t (i + w)

-- a character that was seen says so
pub peeked : (t : List ℕ) (i : ℕ) {c w : ℕ} → peek_at t i ≡ Some (char c w) → Peeked t i c w
unfolding peek_at chars_from
peeked t i {c} {w} e =
    let h = decode_fitting (drop i t) e in
    record {
      some = h.some;
      most = h.most;
      room = omega (arith, h.some, simp length-drop at h.room);
      list = one i (drop i t) e ∙ simp drop-drop;
    }

-- where nothing is seen, no character is left
pub ended : (t : List ℕ) (i : ℕ) → peek_at t i ≡ None → chars_from t i ≡ []
unfolding peek_at chars_from chars_at
ended t i e = none i (drop i t) e
  where
    none : (p : ℕ) (s : List ℕ) → decode s ≡ None → chars_at p 0 s ≡ []
    none p [] e = refl
    none p (b ∷ r) e = ap (leads p (λ k. chars_at (suc p) k r)) e

-- a character that was seen stands within the text
pub seen_in : (t : List ℕ) (i : ℕ) {c w : ℕ} → peek_at t i ≡ Some (char c w) → i < length t
seen_in t i e = let p = peeked t i e in omega arith

-- past the end nothing is seen
pub past_end : (t : List ℕ) (i : ℕ) → length t ≤ i → peek_at t i ≡ None
unfolding peek_at decode
past_end t i h = simp (drop_of_length-le t h)

-- where nothing is seen, the text has ended
pub end_past : (t : List ℕ) (i : ℕ) → peek_at t i ≡ None → length t ≤ i
unfolding peek_at decode char_of
end_past t i e = omega (arith, sym (length-drop i t) ∙ none (drop i t) e)
  where
    none : (s : List ℕ) → decode s ≡ None → length s ≡ 0
    none [] e = refl
    none (b ∷ r) e =
        pick_elim (λ (n : Option Char). n ≡ None → length (b ∷ r) ≡ 0) (eqb (sequence_at (b ∷ r)).width 0)
        (λ t e. let z : ◌≡◌ {A = ℕ} 0 1 = cc in omega arith)
        (λ t e. let z : ◌≡◌ {A = ℕ} 0 1 = cc in omega arith) e

-- a byte below 0x80 is a character of its own
pub ascii_char : (t : List ℕ) (i : ℕ) → i < length t → get_or t i 0 < 0x80 → peek_at t i ≡ Some (char (get_or t i 0) 1)
unfolding peek_at char_of pick
ascii_char t i h l = decode_sequence t i h ∙ ap char_of (ascii_sequence t i h l)

-- a character below 0x80 is the byte at its place
pub char_ascii : (t : List ℕ) (i : ℕ) {c w : ℕ} → peek_at t i ≡ Some (char c w) → c < 0x80 → (get_or t i 0 ≡ c) × (w ≡ 1)
unfolding peek_at
char_ascii t i {c} {w} e l =
    let h = seen_in t i e in
    char_byte _ _ _ _ (ap char_of (sym (sequence_bytes t i h)) ∙ sym (decode_sequence t i h) ∙ e) l

-- the later bytes of a character are 0x80 or above
pub later : (t : List ℕ) (i : ℕ) {c w : ℕ} → peek_at t i ≡ Some (char c w) → (j : ℕ) → i < j → j < i + w → 0x80 ≤ get_or t j 0
unfolding peek_at
later t i {c} {w} e j l u = go (j - i) (omega arith)
  where
    s : i < length t
    s = seen_in t i e

    h : Wide (get_or t (i + 1) 0) (get_or t (i + 2) 0) (get_or t (i + 3) 0) w
    h = char_wide _ _ _ _ (ap char_of (sym (sequence_bytes t i s)) ∙ sym (decode_sequence t i s) ∙ e)

    go : (k : ℕ) → j ≡ i + k → 0x80 ≤ get_or t j 0
    go zero q = absurd (omega arith)
    go (suc zero) q = rw q (h.has2 (omega arith))
    go (suc (suc zero)) q = rw q (h.has3 (omega arith))
    go (suc (suc (suc zero))) q = rw q (h.has4 (omega arith))
    go (suc (suc (suc (suc k)))) q = absurd (omega (arith, h.most))

-- what the first character of a list says of the text
pub record First (t : List ℕ) (i : ℕ) (c : Ch) (cs : List Ch) : Type 0 where
  pub seen : peek_at t i ≡ Some (char c.code c.width)
  pub place : c.at ≡ i
  pub rest : chars_from t (i + c.width) ≡ cs

-- the first character of the list from a place is the one seen there
pub first : (t : List ℕ) (i : ℕ) (c : Ch) (cs : List Ch) → chars_from t i ≡ c ∷ cs → First t i c cs
first t i c cs e = go (peek_at t i) refl
  where
    go : (n : Option Char) → peek_at t i ≡ n → First t i c cs
    go None d = let l = ended t i d in let z : ◌≡◌ {A = ℕ} 0 1 = cc in absurd (omega arith)
    go (Some seen) d =
        let l = (peeked t i d).list in
        let q : ch seen.code i seen.width ≡ c = cc in
        let r : chars_from t (i + seen.width) ≡ cs = cc in
        let qw : seen.width ≡ c.width = ap (λ (k : Ch). k.width) q in
        record {
          seen = d ∙ ap (λ (k : Ch). Some (char k.code k.width)) q;
          place = sym (ap (λ (k : Ch). k.at) q);
          rest = ap (λ (k : ℕ). chars_from t (i + k)) (sym qw) ∙ r;
        }

-- where no character is left, the text has ended
pub none_left : (t : List ℕ) (i : ℕ) → chars_from t i ≡ [] → length t ≤ i
none_left t i e = go (peek_at t i) refl
  where
    go : (n : Option Char) → peek_at t i ≡ n → length t ≤ i
    go None d = end_past t i d
    go (Some seen) d = let l = (peeked t i d).list in let z : ◌≡◌ {A = ℕ} 0 1 = cc in absurd (omega arith)

-- the characters from a place take as many bytes as the text has from there
pub spelled : (t : List ℕ) (cs : List Ch) (i : ℕ) → chars_from t i ≡ cs → i ≤ length t → i + bytes cs ≡ length t
unfolding bytes
spelled t [] i e l = omega (arith, none_left t i e)
spelled t (c ∷ cs) i e l =
    let f = first t i c cs e in
    let p = peeked t i f.seen in
    omega (arith, spelled t cs (i + c.width) f.rest p.room)

module _ (t : List ℕ) (e i : ℕ) where
  -- a character that is seen before byte e is the first of those before it
  pub before_more : {c w : ℕ} → i < e → peek_at t i ≡ Some (char c w) → before e (chars_from t i) ≡ ch c i w ∷ before e (chars_from t (i + w))
  unfolding before pick
  before_more l p = rw ((peeked t i p).list, lt-ltb i e l)

  -- from byte e on none stands before it
  pub before_past : e ≤ i → before e (chars_from t i) ≡ []
  unfolding before pick
  before_past l = go (chars_from t i) refl
    where
      go : (cs : List Ch) → chars_from t i ≡ cs → before e cs ≡ []
      go [] d = refl
      go (c ∷ cs) d = let p = (first t i c cs d).place in rw (le-ltb c.at e (omega arith))

  -- at the end of the text there is none
  pub before_end : peek_at t i ≡ None → before e (chars_from t i) ≡ []
  unfolding before
  before_end p = rw (ended t i p)

module _ (f : ℕ → Bool) {t : List ℕ} {i : ℕ} where
  -- a run goes on past a character that passes the test
  pub run_more : {c w : ℕ} → Peeked t i c w → f c ≡ true → run_end f t (i + w) ≡ run_end f t i
  unfolding run_end take_while bytes pick
  run_more p y = simp (p.list, y, add_assoc)

  -- a run stops before a character that does not
  pub run_stop : {c w : ℕ} → Peeked t i c w → f c ≡ false → run_end f t i ≡ i
  unfolding run_end take_while bytes pick
  run_stop p n = simp (p.list, n, add-zero)

-- a run stops where the text ends
pub run_end_lem : (f : ℕ → Bool) (t : List ℕ) (i : ℕ) → peek_at t i ≡ None → run_end f t i ≡ i
unfolding run_end take_while bytes
run_end_lem f t i e = simp (ended t i e, add-zero)

-- what is the same one place on, for each of n places, is the same n places on
pub places_on : (g : ℕ → ℕ) (i n : ℕ) → ((k : ℕ) → k < n → g (i + k + 1) ≡ g (i + k)) → g (i + n) ≡ g i
places_on g i zero s = ap g (add-zero i)
places_on g i (suc n) s = rw add-suc (rw add-one at (s n (omega arith)) ∙ places_on g i n (λ k h. s k (omega arith)))

module _ (f : ℕ → Bool) (t : List ℕ) (i : ℕ) (h : i < length t) where
  -- a run goes on past an ASCII character that passes the test
  pub ascii_more : get_or t i 0 < 0x80 → f (get_or t i 0) ≡ true → run_end f t (i + 1) ≡ run_end f t i
  ascii_more l y = run_more f (peeked t i (ascii_char t i h l)) y

  -- a run stops before an ASCII character that does not
  pub ascii_stop : get_or t i 0 < 0x80 → f (get_or t i 0) ≡ false → run_end f t i ≡ i
  ascii_stop l n = run_stop f (peeked t i (ascii_char t i h l)) n

module _ (f : ℕ → Bool) (g : (c : ℕ) → 0x80 ≤ c → f c ≡ true) (t : List ℕ) where
  -- where the test holds of every character that is not ASCII, a run passes each byte that is not, wherever in a character it stands
  high_more : (n i : ℕ) → length t ≤ i + n → i < length t → 0x80 ≤ get_or t i 0 → run_end f t (i + 1) ≡ run_end f t i
  high_more zero i m h b = absurd (omega arith)
  high_more (suc n) i m h b = go (λ j. high_more n j) (peek_at t i) refl
    where
      go : ((j : ℕ) → length t ≤ j + n → j < length t → 0x80 ≤ get_or t j 0 → run_end f t (j + 1) ≡ run_end f t j) → (s : Option Char) → peek_at t i ≡ s → run_end f t (i + 1) ≡ run_end f t i
      go r None d = absurd (omega (arith, end_past t i d))
      go r (Some seen) d =
          let p = peeked t i d in
          let q : i + 1 + (seen.width - 1) ≡ i + seen.width = omega (arith, p.some) in
          sym (places_on (run_end f t) (i + 1) (seen.width - 1) (λ k l. r (i + 1 + k) (omega arith) (omega (arith, p.room)) (later t i d (i + 1 + k) (omega arith) (omega arith)))) ∙
          rw q (run_more f p (g seen.code (high seen.code d)))
        where
          high : (c : ℕ) {w : ℕ} → peek_at t i ≡ Some (char c w) → 0x80 ≤ c
          high c d = by (ltb c 0x80) refl
            where
              by : (x : Bool) → ltb c 0x80 ≡ x → 0x80 ≤ c
              by true e = absurd (omega (arith, (char_ascii t i d (ltb-true c 0x80 e)).0, ltb-true c 0x80 e))
              by false e = ltb-false c 0x80 e

  -- BYTES TELL: such a run passes each byte that passes the test
  pub byte_more : (i : ℕ) → i < length t → f (get_or t i 0) ≡ true → run_end f t (i + 1) ≡ run_end f t i
  byte_more i h y = go (ltb (get_or t i 0) 0x80) refl
    where
      go : (x : Bool) → ltb (get_or t i 0) 0x80 ≡ x → run_end f t (i + 1) ≡ run_end f t i
      go true e = ascii_more f t i h (ltb-true (get_or t i 0) 0x80 e) y
      go false e = high_more (length t) i (omega arith) h (ltb-false (get_or t i 0) 0x80 e)

  -- and stops at each that does not
  pub byte_stop : (i : ℕ) → i < length t → f (get_or t i 0) ≡ false → run_end f t i ≡ i
  byte_stop i h n = go (ltb (get_or t i 0) 0x80) refl
    where
      go : (x : Bool) → ltb (get_or t i 0) 0x80 ≡ x → run_end f t i ≡ i
      go true e = ascii_stop f t i h (ltb-true (get_or t i 0) 0x80 e) n
      go false e = absurd (true≢false (sym (g (get_or t i 0) (ltb-false (get_or t i 0) 0x80 e)) ∙ n))

-- a run and what it leaves are the whole list
pub run_split : (f : ℕ → Bool) (cs : List Ch) → take_while f cs ++ drop_while f cs ≡ cs
unfolding take_while drop_while pick
run_split f [] = refl
run_split f (c ∷ cs) = go (f c.code) (run_split f cs)
  where
    go : (b : Bool) → take_while f cs ++ drop_while f cs ≡ cs → pick b (c ∷ take_while f cs) [] ++ pick b (drop_while f cs) (c ∷ cs) ≡ c ∷ cs
    go true e = ap (◌∷◌ c) e
    go false e = refl
