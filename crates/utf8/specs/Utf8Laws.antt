-- Laws of UTF-8: the valid prefix is well-formed by table 3-7, no longer one is, and in a valid text each character is the
-- well-formed sequence at its place. Rests on Table37, Utf8 and CharLaws.
use Rattle.std.specs.Prelude.{ℕ, zero, suc, pred, ◌+◌, ◌≤◌, ◌<◌, ◌≡◌, refl, Bool, true, false, List, [], ◌∷◌, ◌++◌, ltb, eqb, length, get_or, take, drop, Option, Some}
use Rattle.std.proofs.Common.{sym, ◌∙◌, ap, append_assoc, append-nil, add-zero, zero-add, add_assoc, arith, lt-ltb, le-ltb, eq-eqb, ne_eqb, eqb-true, ltb-true, ltb-false, length-append, length-drop, take-append-drop, drop_of_length-le, take-add, drop-drop, take_all, length-take-le}
use Rattle.std.proofs.lemmas.Bool.{eqb-false}
use Rattle.std.proofs.Math.Seq.{drop-append_seam}
use Rattle.std.proofs.lemmas.List.{drop-append-le}
use Rattle.utf8.specs.Choice.{pick, within}
use Rattle.utf8.specs.ChoiceLaws.{pick_elim, within_low, within_high, in_within}
use Rattle.utf8.specs.Table37.{In, Row, WellFormed}
use Rattle.utf8.specs.Table37.Row.{row1, row2, row3, row4, row5, row6, row7, row8, row9}
use Rattle.utf8.specs.Table37.WellFormed.{none, more}
use Rattle.utf8.specs.Utf8.{low, high, seq, code2, code3, code4, sequence_of, sequence_at, char_of, peek_at, valid, valid_prefix, char}
use Rattle.utf8.specs.DecodeLaws.{same_code, same_width, second_low, sequence_room, decode_sequence}
use Rattle.utf8.specs.Chars.{Ch, chars_from}
use Rattle.utf8.specs.CharLaws.{Peeked, peeked, First, first}
use Rattle.utf8.specs.declared.Sequence.{Sequence}
use Rattle.utf8.specs.declared.Char.{Char}

-- the bytes that belong to the sequence before are dropped
skip : (k : ℕ) (s : List ℕ) → valid k s ≡ valid 0 (drop k s)
unfolding valid
skip zero s = refl
skip (suc k) [] = refl
skip (suc k) (b ∷ r) = skip k r

-- a well-formed sequence at the start counts, and what follows it
valid_more : (s : List ℕ) → ((sequence_at s).width ≡ 0 → ⊥) → valid 0 s ≡ (sequence_at s).width + valid 0 (drop (sequence_at s).width s)
unfolding valid pick sequence_at
valid_more [] n = absurd (n refl)
valid_more (b ∷ r) n = simp (ne_eqb _ _ n) (ap (λ (m : ℕ). (sequence_at (b ∷ r)).width + m) (go (sequence_at (b ∷ r)).width n))
  where
    go : (w : ℕ) → (w ≡ 0 → ⊥) → valid (pred w) r ≡ valid 0 (drop w (b ∷ r))
    go zero n = absurd (n refl)
    go (suc k) n = skip k r

-- where there is none, nothing counts
valid_stop : (s : List ℕ) → (sequence_at s).width ≡ 0 → valid 0 s ≡ 0
unfolding valid pick
valid_stop [] e = refl
valid_stop (b ∷ r) e = simp (eq-eqb _ _ e)

-- where the well-formed sequences from place i end
unfoldable pub valid_end : List ℕ → ℕ → ℕ
valid_end t i = i + valid 0 (drop i t)

-- those from the start end at the valid prefix's length
pub valid_all : (t : List ℕ) → valid_end t 0 ≡ valid_prefix t
unfolding valid_end valid_prefix
valid_all t = zero-add (valid 0 t)

-- a well-formed sequence is passed
pub valid_on : (t : List ℕ) (i w : ℕ) → (sequence_at (drop i t)).width ≡ w → (w ≡ 0 → ⊥) → valid_end t (i + w) ≡ valid_end t i
unfolding valid_end
valid_on t i w e n = sym (ap (λ (m : ℕ). i + m) (valid_more (drop i t) (rw e n)) ∙ simp (e, drop-drop, add_assoc))

-- where there is none, the well-formed sequences end
pub valid_end_lem : (t : List ℕ) (i : ℕ) → (sequence_at (drop i t)).width ≡ 0 → valid_end t i ≡ i
unfolding valid_end
valid_end_lem t i e = simp (valid_stop (drop i t) e, add-zero)

-- a well-formed sequence is within the text
pub valid_room : (t : List ℕ) (i w : ℕ) → (sequence_at (drop i t)).width ≡ w → (w ≡ 0 → ⊥) → i + w ≤ length t
valid_room t i w e n = let h = sequence_room (drop i t) in omega (arith, e, n, simp length-drop at h)

-- the range of the second byte, by the row
pub low_other : (b : ℕ) → (b ≡ 0xE0 → ⊥) → (b ≡ 0xF0 → ⊥) → low b ≡ 0x80
unfolding low pick
low_other b m n = simp (ne_eqb b 0xE0 m, ne_eqb b 0xF0 n)

pub high_other : (b : ℕ) → (b ≡ 0xED → ⊥) → (b ≡ 0xF4 → ⊥) → high b ≡ 0xBF
unfolding high pick
high_other b m n = simp (ne_eqb b 0xED m, ne_eqb b 0xF4 n)

low_E0 : (b : ℕ) → b ≡ 0xE0 → low b ≡ 0xA0
unfolding low pick
low_E0 b e = simp (eq-eqb b 0xE0 e)

low_F0 : (b : ℕ) → b ≡ 0xF0 → low b ≡ 0x90
unfolding low pick
low_F0 b e = simp (ne_eqb b 0xE0 (omega arith), eq-eqb b 0xF0 e)

high_ED : (b : ℕ) → b ≡ 0xED → high b ≡ 0x9F
unfolding high pick
high_ED b e = simp (eq-eqb b 0xED e)

high_F4 : (b : ℕ) → b ≡ 0xF4 → high b ≡ 0x8F
unfolding high pick
high_F4 b e = simp (ne_eqb b 0xED (omega arith), eq-eqb b 0xF4 e)

-- the tests of the second byte, from the row and back
within_in : {x lo hi : ℕ} → In x lo hi → within x lo hi ≡ true
within_in h = in_within h.0 h.1

second_in : (b : ℕ) {c lo hi : ℕ} → low b ≡ lo → high b ≡ hi → In c lo hi → within c (low b) (high b) ≡ true
second_in b l h i = rw (l, h) (within_in i)

-- the sequence by the first byte's range and the later bytes' tests
pub sequence1 : (b c d e : ℕ) → b < 0x80 → sequence_of b c d e ≡ seq b 1
unfolding sequence_of pick
sequence1 b c d e u = simp (lt-ltb b 0x80 u)

sequence2 : (b c d e : ℕ) → 0xC2 ≤ b → b < 0xE0 → within c (low b) (high b) ≡ true → sequence_of b c d e ≡ seq (code2 b c) 2
unfolding sequence_of pick
sequence2 b c d e l u s = simp (le-ltb b 0x80 (omega arith), le-ltb b 0xC2 l, s, lt-ltb b 0xE0 u)

sequence3 : (b c d e : ℕ) → 0xE0 ≤ b → b < 0xF0 → within c (low b) (high b) ≡ true → within d 0x80 0xBF ≡ true → sequence_of b c d e ≡ seq (code3 b c d) 3
unfolding sequence_of pick
sequence3 b c d e l u s t = simp (le-ltb b 0x80 (omega arith), le-ltb b 0xC2 (omega arith), s, le-ltb b 0xE0 l, t, lt-ltb b 0xF0 u)

sequence4 : (b c d e : ℕ) → 0xF0 ≤ b → b < 0xF5 → within c (low b) (high b) ≡ true → within d 0x80 0xBF ≡ true → within e 0x80 0xBF ≡ true → sequence_of b c d e ≡ seq (code4 b c d e) 4
unfolding sequence_of pick
sequence4 b c d e l u s t v = simp (le-ltb b 0x80 (omega arith), le-ltb b 0xC2 (omega arith), s, le-ltb b 0xE0 (omega arith), t, le-ltb b 0xF0 l, v, lt-ltb b 0xF5 u)

-- the code that the bytes of a row spell
abbrev pub row_code : List ℕ → ℕ
row_code [] = 0
row_code (b ∷ []) = b
row_code (b ∷ c ∷ []) = code2 b c
row_code (b ∷ c ∷ d ∷ []) = code3 b c d
row_code (b ∷ c ∷ d ∷ e ∷ r) = code4 b c d e

-- a row of the table is the sequence at the start of any bytes that begin with it
pub row_sequence : {q : List ℕ} → Row q → (r : List ℕ) → sequence_at (q ++ r) ≡ seq (row_code q) (length q)
unfolding sequence_at
row_sequence (row1 {b} h) r = sequence1 b _ _ _ (omega arith)
row_sequence (row2 {b} h i) r = sequence2 b _ _ _ h.0 (omega arith) (second_in b (low_other b (omega arith) (omega arith)) (high_other b (omega arith) (omega arith)) i)
row_sequence (row3 {b} h i j) r = sequence3 b _ _ _ (omega arith) (omega arith) (second_in b (low_E0 b (omega arith)) (high_other b (omega arith) (omega arith)) i) (within_in j)
row_sequence (row4 {b} h i j) r = sequence3 b _ _ _ (omega arith) (omega arith) (second_in b (low_other b (omega arith) (omega arith)) (high_other b (omega arith) (omega arith)) i) (within_in j)
row_sequence (row5 {b} h i j) r = sequence3 b _ _ _ (omega arith) (omega arith) (second_in b (low_other b (omega arith) (omega arith)) (high_ED b (omega arith)) i) (within_in j)
row_sequence (row6 {b} h i j) r = sequence3 b _ _ _ (omega arith) (omega arith) (second_in b (low_other b (omega arith) (omega arith)) (high_other b (omega arith) (omega arith)) i) (within_in j)
row_sequence (row7 {b} h i j k) r = sequence4 b _ _ _ (omega arith) (omega arith) (second_in b (low_F0 b (omega arith)) (high_other b (omega arith) (omega arith)) i) (within_in j) (within_in k)
row_sequence (row8 {b} h i j k) r = sequence4 b _ _ _ (omega arith) (omega arith) (second_in b (low_other b (omega arith) (omega arith)) (high_other b (omega arith) (omega arith)) i) (within_in j) (within_in k)
row_sequence (row9 {b} h i j k) r = sequence4 b _ _ _ (omega arith) (omega arith) (second_in b (low_other b (omega arith) (omega arith)) (high_F4 b (omega arith)) i) (within_in j) (within_in k)

-- so its width is the number of its bytes
pub row_width : {q : List ℕ} → Row q → (r : List ℕ) → (sequence_at (q ++ r)).width ≡ length q
row_width x r = ap (λ (s : Sequence). s.width) (row_sequence x r)

-- a row has a byte
some_bytes : {q : List ℕ} → Row q → 1 ≤ length q
some_bytes (row1 h) = omega arith
some_bytes (row2 h i) = omega arith
some_bytes (row3 h i j) = omega arith
some_bytes (row4 h i j) = omega arith
some_bytes (row5 h i j) = omega arith
some_bytes (row6 h i j) = omega arith
some_bytes (row7 h i j k) = omega arith
some_bytes (row8 h i j k) = omega arith
some_bytes (row9 h i j k) = omega arith

-- NO LONGER PREFIX IS WELL-FORMED than the valid one
pub longest : {q : List ℕ} → WellFormed q → (r : List ℕ) → length q ≤ valid_prefix (q ++ r)
unfolding valid_prefix
longest none r = omega arith
longest (more {q} {r = s} x w) r =
    let e = row_width x (s ++ r) in
    let h = some_bytes x in
    let m = valid_more (q ++ (s ++ r)) (λ z. omega arith) in
    let k : valid 0 (q ++ (s ++ r)) ≡ length q + valid 0 (s ++ r) = m ∙ simp (e, drop-append_seam) in
    simp (append_assoc, length-append) (omega (arith, k, longest w r))

-- the sequences from a place end there or after it
pub valid_least : (t : List ℕ) (i : ℕ) → i ≤ valid_end t i
unfolding valid_end
valid_least t i = omega arith

-- past the end of the text there is none
pub valid_past : (t : List ℕ) (i : ℕ) → length t ≤ i → valid_end t i ≡ i
unfolding sequence_at
valid_past t i h = valid_end_lem t i (rw (drop_of_length-le t {i = i} h) refl)

-- what follows well-formed bytes counts by itself
pub valid_well : {q : List ℕ} → WellFormed q → (r : List ℕ) → valid 0 (q ++ r) ≡ length q + valid 0 r
valid_well none r = sym (zero-add (valid 0 r))
valid_well (more {q} {r = s} x w) r =
    let e = row_width x (s ++ r) in
    let h = some_bytes x in
    let m = valid_more (q ++ (s ++ r)) (λ z. omega arith) in
    let k : valid 0 (q ++ (s ++ r)) ≡ length q + valid 0 (s ++ r) = m ∙ simp (e, drop-append_seam) in
    simp (append_assoc, length-append) (omega (arith, k, valid_well w r))

-- the first bytes of a list, where they are not 0
take1 : (r : List ℕ) → 1 ≤ get_or r 0 0 → take 1 r ≡ get_or r 0 0 ∷ []
take1 [] h = absurd (omega arith)
take1 (c ∷ r) h = refl

take2 : (r : List ℕ) → 1 ≤ get_or r 0 0 → 1 ≤ get_or r 1 0 → take 2 r ≡ get_or r 0 0 ∷ get_or r 1 0 ∷ []
take2 [] h i = absurd (omega arith)
take2 (c ∷ r) h i = ap (◌∷◌ c) (take1 r i)

take3 : (r : List ℕ) → 1 ≤ get_or r 0 0 → 1 ≤ get_or r 1 0 → 1 ≤ get_or r 2 0 → take 3 r ≡ get_or r 0 0 ∷ get_or r 1 0 ∷ get_or r 2 0 ∷ []
take3 [] h i j = absurd (omega arith)
take3 (c ∷ r) h i j = ap (◌∷◌ c) (take2 r i j)

in_of : {x lo hi : ℕ} → within x lo hi ≡ true → In x lo hi
in_of {x} {lo} {hi} t = (within_low lo hi t, within_high lo hi t)

in_second : (b : ℕ) {c lo hi : ℕ} → low b ≡ lo → high b ≡ hi → within c (low b) (high b) ≡ true → In c lo hi
in_second b {c} l h t = in_of (rw (l, h) at t)

-- the row, by the first byte's range
one_of : (b : ℕ) (r : List ℕ) → b < 0x80 → Row (take 1 (b ∷ r))
one_of b r h = row1 {b = b} (omega arith)

two_of : (b c : ℕ) → 0xC2 ≤ b → b < 0xE0 → within c (low b) (high b) ≡ true → Row (b ∷ c ∷ [])
two_of b c l u s = row2 {b = b} (omega arith) (in_second b (low_other b (omega arith) (omega arith)) (high_other b (omega arith) (omega arith)) s)

three_of : (b c d : ℕ) → 0xE0 ≤ b → b < 0xF0 → within c (low b) (high b) ≡ true → In d 0x80 0xBF → Row (b ∷ c ∷ d ∷ [])
three_of b c d l u s t = go (eqb b 0xE0) refl (ltb b 0xED) refl (eqb b 0xED) refl
  where
    go : (x : Bool) → eqb b 0xE0 ≡ x → (y : Bool) → ltb b 0xED ≡ y → (z : Bool) → eqb b 0xED ≡ z → Row (b ∷ c ∷ d ∷ [])
    go true e y f z g = let h = eqb-true b 0xE0 e in row3 {b = b} (omega arith) (in_second b (low_E0 b h) (high_other b (omega arith) (omega arith)) s) t
    go false e true f z g =
        let h = eqb-false b 0xE0 e in
        let k = ltb-true b 0xED f in
        row4 {b = b} (omega arith) (in_second b (low_other b h (omega arith)) (high_other b (omega arith) (omega arith)) s) t
    go false e false f true g = let h = eqb-true b 0xED g in row5 {b = b} (omega arith) (in_second b (low_other b (omega arith) (omega arith)) (high_ED b h) s) t
    go false e false f false g =
        let h = eqb-false b 0xED g in
        let k = ltb-false b 0xED f in
        row6 {b = b} (omega arith) (in_second b (low_other b (omega arith) (omega arith)) (high_other b h (omega arith)) s) t

four_of : (b c d e : ℕ) → 0xF0 ≤ b → b < 0xF5 → within c (low b) (high b) ≡ true → In d 0x80 0xBF → In e 0x80 0xBF → Row (b ∷ c ∷ d ∷ e ∷ [])
four_of b c d e l u s t v = go (eqb b 0xF0) refl (eqb b 0xF4) refl
  where
    go : (x : Bool) → eqb b 0xF0 ≡ x → (z : Bool) → eqb b 0xF4 ≡ z → Row (b ∷ c ∷ d ∷ e ∷ [])
    go true p z g = let h = eqb-true b 0xF0 p in row7 {b = b} (omega arith) (in_second b (low_F0 b h) (high_other b (omega arith) (omega arith)) s) t v
    go false p true g = let h = eqb-true b 0xF4 g in row9 {b = b} (omega arith) (in_second b (low_other b (omega arith) (omega arith)) (high_F4 b h) s) t v
    go false p false g =
        let h = eqb-false b 0xF0 p in
        let k = eqb-false b 0xF4 g in
        row8 {b = b} (omega arith) (in_second b (low_other b (omega arith) h) (high_other b (omega arith) k) s) t v

-- a sequence that is found is a row of the table
pub sequence_row : (b : ℕ) (r : List ℕ) → ((sequence_at (b ∷ r)).width ≡ 0 → ⊥) → Row (take (sequence_at (b ∷ r)).width (b ∷ r))
unfolding sequence_at sequence_of
sequence_row b r =
    let P : Sequence → Type 0 = λ s. (s.width ≡ 0 → ⊥) → Row (take s.width (b ∷ r)) in
    pick_elim P _ (λ t n. one_of b r (ltb-true b 0x80 t)) (λ t.
    pick_elim P _ (λ t n. absurd (n refl)) (λ t2.
    let l = ltb-false b 0xC2 t2 in
    pick_elim P _ (λ s. let h = second_low b s in
    pick_elim P _ (λ t n. rw (take1 r (omega arith)) (two_of b _ l (ltb-true b 0xE0 t) s)) (λ t3.
    pick_elim P _ (λ v. let k = within_low 0x80 0xBF v in
    pick_elim P _ (λ t n. rw (take2 r (omega arith) (omega arith)) (three_of b _ _ (ltb-false b 0xE0 t3) (ltb-true b 0xF0 t) s (in_of v))) (λ t4.
    pick_elim P _ (λ x. let m = within_low 0x80 0xBF x in
    pick_elim P _ (λ t n. rw (take3 r (omega arith) (omega arith) (omega arith)) (four_of b _ _ _ (ltb-false b 0xF0 t4) (ltb-true b 0xF5 t) s (in_of v) (in_of x))) (λ t n. absurd (n refl)))
    (λ t n. absurd (n refl))))
    (λ t n. absurd (n refl))))
    (λ t n. absurd (n refl))))

-- by the number of bytes
prefix_at : (n : ℕ) (t : List ℕ) → length t ≤ n → WellFormed (take (valid 0 t) t)
unfolding valid
prefix_at zero [] h = none
prefix_at (suc n) [] h = none
prefix_at zero (b ∷ r) h = absurd (omega arith)
prefix_at (suc n) (b ∷ r) h = go (λ k. prefix_at n (drop (suc k) (b ∷ r)) (simp length-drop (omega arith))) (eqb (sequence_at (b ∷ r)).width 0) refl
  where
    go : ((k : ℕ) → WellFormed (take (valid 0 (drop (suc k) (b ∷ r))) (drop (suc k) (b ∷ r)))) → (x : Bool) → eqb (sequence_at (b ∷ r)).width 0 ≡ x → WellFormed (take (valid 0 (b ∷ r)) (b ∷ r))
    go f true e = rw (valid_stop (b ∷ r) (eqb-true (sequence_at (b ∷ r)).width 0 e)) none
    go f false e =
        let w = (sequence_at (b ∷ r)).width in
        let z = eqb-false w 0 e in
        let m = valid_more (b ∷ r) z in
        rw (m, take-add w (valid 0 (drop w (b ∷ r))) (b ∷ r)) (more (sequence_row b r z) (by w z))
      where
        by : (w : ℕ) → (w ≡ 0 → ⊥) → WellFormed (take (valid 0 (drop w (b ∷ r))) (drop w (b ∷ r)))
        by zero z = absurd (z refl)
        by (suc k) z = f k

-- THE VALID PREFIX IS WELL-FORMED
pub prefix : (t : List ℕ) → WellFormed (take (valid_prefix t) t)
unfolding valid_prefix
prefix t = prefix_at (length t) t (omega arith)

-- the valid prefix is within the text
pub valid_within : (a : List ℕ) → valid_prefix a ≤ length a
unfolding sequence_at valid_prefix
valid_within a = go (ltb (length a) n) refl
  where
    n : ℕ
    n = valid 0 a

    k : n ≡ length (take n a) + valid 0 (drop n a)
    k = ap (valid 0) (sym (take-append-drop n a)) ∙ valid_well (prefix_at (length a) a (omega arith)) (drop n a)

    go : (x : Bool) → ltb (length a) n ≡ x → n ≤ length a
    go true e =
        let h = ltb-true (length a) n e in
        let d : valid 0 (drop n a) ≡ 0 = rw (drop_of_length-le a {i = n} (omega arith)) (valid_stop [] refl) in
        let t : length (take n a) ≡ length a = ap length (take_all n a (omega arith)) in
        absurd (omega (arith, k, d, t, h))
    go false e = let h = ltb-false (length a) n e in omega arith

-- THE CHECK GOES ON from where it stood when more bytes have come
pub valid_join : (a b : List ℕ) → valid_end (a ++ b) (valid_prefix a) ≡ valid_prefix (a ++ b)
unfolding valid_end valid_prefix
valid_join a b =
    let n : ℕ = valid 0 a in
    let q : length (take n a) ≡ n = length-take-le n a (valid_within a) in
    let d : drop n (a ++ b) ≡ drop n a ++ b = drop-append-le n a b (valid_within a) in
    let s : take n a ++ (drop n a ++ b) ≡ a ++ b = sym (append_assoc (take n a) (drop n a) b) ∙ ap (λ (x : List ℕ). x ++ b) (take-append-drop n a) in
    let w = valid_well (prefix_at (length a) a (omega arith)) (drop n a ++ b) in
    ap (λ (x : List ℕ). n + valid 0 x) d ∙ ap (λ (m : ℕ). m + valid 0 (drop n a ++ b)) (sym q) ∙ sym w ∙ ap (valid 0) s

-- well-formed bytes, one list after another
pub well_join : {a b : List ℕ} → WellFormed a → WellFormed b → WellFormed (a ++ b)
well_join none w = w
well_join {b = b} (more {q} {r} x v) w = rw (append_assoc q r b) (more x (well_join v w))

-- well-formed bytes are valid to their end
pub well_valid : {t : List ℕ} → WellFormed t → valid_prefix t ≡ length t
unfolding valid_prefix valid
well_valid {t} w =
    let e : valid 0 (t ++ []) ≡ length t + 0 = valid_well w [] in
    ap (valid 0) (sym (append-nil t)) ∙ e ∙ add-zero (length t)

-- each character is the well-formed sequence at its place
abbrev pub Real : List ℕ → List Ch → Type 0
Real t [] = Unit {0}
Real t (c ∷ cs) = (sequence_at (drop c.at t) ≡ seq c.code c.width) × Real t cs

-- a character of a sequence that is there is that sequence
kept : (s : Sequence) {c w : ℕ} → (s.width ≡ 0 → ⊥) → char_of s ≡ Some (char c w) → s ≡ seq c w
unfolding char_of
kept s {c} {w} n = pick_elim (λ (m : Option Char). m ≡ Some (char c w) → s ≡ seq c w) (eqb s.width 0)
    (λ t e. absurd (n (eqb-true s.width 0 t)))
    (λ t e.
    let p = same_code e in
    let q = same_width e in
    λ i. record { code = p i; width = q i })

-- so it is from any place from which the text is well-formed
pub real_from : (t : List ℕ) (cs : List Ch) (i : ℕ) → chars_from t i ≡ cs → valid_end t i ≡ length t → Real t cs
unfolding peek_at
real_from t [] i e v = tt
real_from t (c ∷ cs) i e v = (
  ap (λ (k : ℕ). sequence_at (drop k t)) f.place ∙ s,
  real_from t cs (i + c.width) f.rest (valid_on t i c.width (ap (λ (x : Sequence). x.width) s) (omega (arith, p.some)) ∙ v),
)
  where
    f : First t i c cs
    f = first t i c cs e

    p : Peeked t i c.code c.width
    p = peeked t i f.seen

    w : (sequence_at (drop i t)).width ≡ 0 → ⊥
    w z = omega (arith, sym (valid_end_lem t i z) ∙ v, p.some, p.room)

    s : sequence_at (drop i t) ≡ seq c.code c.width
    s = kept (sequence_at (drop i t)) w (sym (decode_sequence t i (omega (arith, p.some, p.room))) ∙ f.seen)

-- IN A VALID TEXT NO CHARACTER STANDS FOR BYTES THAT ARE NONE
pub real : (t : List ℕ) → valid_prefix t ≡ length t → Real t (chars_from t 0)
real t v = real_from t (chars_from t 0) 0 refl (valid_all t ∙ v)
