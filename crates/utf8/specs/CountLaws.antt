-- Laws of counting characters between two places: a character is one, a block of ASCII as many as its bytes, and in a text that is UTF-8
-- those that the check passes are all. Rests on Chars, CharLaws, Utf8Laws and BlockLaws.
use Rattle.std.specs.Prelude.{ℕ, suc, ◌+◌, ◌-◌, ◌≤◌, ◌<◌, ◌≡◌, refl, List, [], ◌∷◌, ◌⊎◌, length, get_or, drop, Some}
use Rattle.std.proofs.Common.{sym, ◌∙◌, ap, inl, inr, arith, leb-false, eq-eqb, ne_eqb, lt-ltb}
use Rattle.utf8.specs.Choice.{pick}
use Rattle.utf8.specs.Utf8.{sequence_at, char_of, peek_at, valid_prefix, char}
use Rattle.utf8.specs.DecodeLaws.{decode_sequence}
use Rattle.utf8.specs.Chars.{Ch, chars_from, before, chars_of, CheckedAs}
use Rattle.utf8.specs.CharLaws.{peeked, first, before_more, before_past, ascii_char, places_on}
use Rattle.utf8.specs.Utf8Laws.{valid_end, valid_room, valid_past, valid_all}
use Rattle.utf8.specs.Blocks.{how_many, is_high}
use Rattle.utf8.specs.BlockLaws.{how_many_none, valid_block}

-- a character of w bytes at place i: it is one of those before any byte after i, and the others stand from past it on
abbrev pub Passed : List ℕ → ℕ → ℕ → Type 0
Passed t i w = (e : ℕ) → i < e → length (chars_of t i e) ≡ suc (length (chars_of t (i + w) e))

-- a character that was seen is passed
passed_seen : (t : List ℕ) (i : ℕ) {c w : ℕ} → peek_at t i ≡ Some (char c w) → Passed t i w
passed_seen t i p e l = ap length (before_more t e i l p)

-- a well-formed sequence is
pub passed_on : (t : List ℕ) (i w : ℕ) → (sequence_at (drop i t)).width ≡ w → (w ≡ 0 → ⊥) → Passed t i w
unfolding peek_at char_of pick
passed_on t i w q n =
    let h = valid_room t i w q n in
    passed_seen t i {c = (sequence_at (drop i t)).code} (decode_sequence t i (omega (arith, n)) ∙ simp (q, ne_eqb w 0 n))

-- and so is a byte that is none
pub passed_none : (t : List ℕ) (i : ℕ) → i < length t → (sequence_at (drop i t)).width ≡ 0 → Passed t i 1
unfolding peek_at char_of pick
passed_none t i h q = passed_seen t i {c = 0xFFFD} (decode_sequence t i h ∙ simp (eq-eqb _ _ q))

-- A BLOCK OF ASCII HAS A CHARACTER FOR EACH BYTE
pub chars_block : (t : List ℕ) (e i n : ℕ) → i + n ≤ length t → i + n ≤ e → how_many is_high t i n ≡ 0 →
    i + n + length (chars_of t (i + n) e) ≡ i + length (chars_of t i e)
chars_block t e i n h l z = places_on (λ k. k + length (chars_of t k e)) i n
    (λ k m.
    let b = leb-false 0x80 (get_or t (i + k) 0) (how_many_none is_high t i n z k m) in
    let p = passed_seen t (i + k) (ascii_char t (i + k) (omega arith) b) e (omega arith) in
    omega arith)

-- both for a block from place i to place j
pub valid_to : (t : List ℕ) (i j : ℕ) → i ≤ j → j ≤ length t → how_many is_high t i (j - i) ≡ 0 → valid_end t j ≡ valid_end t i
valid_to t i j l h z = let q : i + (j - i) ≡ j = omega arith in ap (valid_end t) (sym q) ∙ valid_block t i (j - i) (omega arith) z

pub chars_to : (t : List ℕ) (e i j : ℕ) → i ≤ j → j ≤ length t → (j ≡ i) ⊎ (j ≤ e) → how_many is_high t i (j - i) ≡ 0 →
    j + length (chars_of t j e) ≡ i + length (chars_of t i e)
chars_to t e i j l h (inl q) z = ap (λ (k : ℕ). k + length (chars_of t k e)) q
chars_to t e i j l h (inr m) z =
    let q : i + (j - i) ≡ j = omega arith in
    ap (λ (k : ℕ). k + length (chars_of t k e)) (sym q) ∙ chars_block t e i (j - i) (omega arith) (omega arith) z

-- where characters end by a byte, all of them stand before it
pub all_before : (t : List ℕ) (cs : List Ch) (i e : ℕ) → chars_from t i ≡ cs → length t ≤ e → before e cs ≡ cs
unfolding before pick
all_before t [] i e d h = refl
all_before t (c ∷ cs) i e d h =
    let f = first t i c cs d in
    let p = peeked t i f.seen in
    rw (lt-ltb c.at e (omega (arith, f.place, p.some, p.room)), all_before t cs (i + c.width) e f.rest h)

-- IN A VALID TEXT the check passes every character
pub all_passed : (t : List ℕ) → valid_prefix t ≡ length t → length (chars_of t 0 (valid_prefix t)) ≡ length (chars_from t 0)
all_passed t v = ap length (all_before t (chars_from t 0) 0 (valid_prefix t) refl (omega arith))

-- a text that is all ASCII is UTF-8 to its end, and has as many characters as bytes
pub ascii_checked : (t : List ℕ) → how_many is_high t 0 (length t) ≡ 0 → CheckedAs t (length t) (length t)
ascii_checked t z =
    let n = length t in
    let q : n - 0 ≡ n = omega arith in
    let none : how_many is_high t 0 (n - 0) ≡ 0 = rw q z in
    let v : n ≡ valid_prefix t = sym (valid_past t n (omega arith)) ∙ valid_to t 0 n (omega arith) (omega arith) none ∙ valid_all t in
    let c = chars_to t (valid_prefix t) 0 n (omega arith) (omega arith) (inr (omega (arith, v))) none in
    (v, omega (arith, c, ap length (before_past t (valid_prefix t) n (omega (arith, v)))))
