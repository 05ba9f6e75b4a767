-- Decoding a valid text and encoding its characters gives the text again, so its codes determine it. Rests on Encode and Utf8Laws.
use Rattle.std.specs.Prelude.{ℕ, ◌+◌, ◌-◌, ◌*◌, ◌/◌, ◌%◌, ◌≤◌, ◌<◌, ◌≡◌, refl, ◌⊎◌, List, [], ◌∷◌, length, take, drop}
use Rattle.std.proofs.Common.{sym, ◌∙◌, ap, inl, inr, ⊎_elim, arith, lt-ltb, le-ltb, drop_of_length-le, take-append-drop, drop-drop}
use Rattle.utf8.specs.Choice.{pick}
use Rattle.utf8.specs.Table37.{In, Row}
use Rattle.utf8.specs.Table37.Row.{row1, row2, row3, row4, row5, row6, row7, row8, row9}
use Rattle.utf8.specs.Utf8.{seq, code2, code3, code4, sequence_at, valid_prefix}
use Rattle.utf8.specs.Utf8Laws.{row_code, row_sequence, sequence_row, real_from, valid_end, valid_all, valid_on}
use Rattle.utf8.specs.Chars.{Ch, chars_from}
use Rattle.utf8.specs.CharLaws.{peeked, first, none_left}
use Rattle.utf8.specs.declared.Sequence.{Sequence}
use Rattle.utf8.specs.Encode.{encode, encode_all}

-- a number of two digits in base 64, taken apart
quotient : (x z : ℕ) → z < 64 → (x * 64 + z) / 64 ≡ x
quotient x z h = omega arith

remainder : (x z : ℕ) → z < 64 → (x * 64 + z) % 64 ≡ z
remainder x z h = omega arith

-- the bytes of a code of two, three and four digits, each after the first in base 64
encode2 : (x y : ℕ) → 2 ≤ x → x < 32 → y < 64 → encode (x * 64 + y) ≡ (0xC0 + x) ∷ (0x80 + y) ∷ []
unfolding encode pick
encode2 x y l u h = simp (le-ltb (x * 64 + y) 0x80 (omega arith), lt-ltb (x * 64 + y) 0x800 (omega arith), quotient x y h, remainder x y h)

encode3 : (x y z : ℕ) → 0x20 ≤ x * 64 + y → x < 16 → y < 64 → z < 64 → encode ((x * 64 + y) * 64 + z) ≡ (0xE0 + x) ∷ (0x80 + y) ∷ (0x80 + z) ∷ []
unfolding encode pick
encode3 x y z l u h k =
    simp (
      le-ltb ((x * 64 + y) * 64 + z) 0x80 (omega arith),
      le-ltb ((x * 64 + y) * 64 + z) 0x800 (omega arith),
      lt-ltb ((x * 64 + y) * 64 + z) 0x10000 (omega arith),
      quotient (x * 64 + y) z k,
      remainder (x * 64 + y) z k,
      quotient x y h,
      remainder x y h,
    )

encode4 : (w x y z : ℕ) → 0x10 ≤ w * 64 + x → x < 64 → y < 64 → z < 64 → encode (((w * 64 + x) * 64 + y) * 64 + z) ≡ (0xF0 + w) ∷ (0x80 + x) ∷ (0x80 + y) ∷ (0x80 + z) ∷ []
unfolding encode pick
encode4 w x y z l u h k =
    simp (
      le-ltb (((w * 64 + x) * 64 + y) * 64 + z) 0x80 (omega arith),
      le-ltb (((w * 64 + x) * 64 + y) * 64 + z) 0x800 (omega arith),
      le-ltb (((w * 64 + x) * 64 + y) * 64 + z) 0x10000 (omega arith),
      quotient ((w * 64 + x) * 64 + y) z k,
      remainder ((w * 64 + x) * 64 + y) z k,
      quotient (w * 64 + x) y h,
      remainder (w * 64 + x) y h,
      quotient w x u,
      remainder w x u,
    )

-- the bytes that a row spells with, from its code
two : (b c : ℕ) → In b 0xC2 0xDF → In c 0x80 0xBF → encode (code2 b c) ≡ b ∷ c ∷ []
two b c h i =
    let p : 0xC0 + (b - 0xC0) ≡ b = omega arith in
    let q : 0x80 + (c - 0x80) ≡ c = omega arith in
    cc (encode2 (b - 0xC0) (c - 0x80) (omega arith) (omega arith) (omega arith))

three : (b c d : ℕ) → In b 0xE0 0xEF → In c 0x80 0xBF → In d 0x80 0xBF → (0xE1 ≤ b) ⊎ (0xA0 ≤ c) → encode (code3 b c d) ≡ b ∷ c ∷ d ∷ []
three b c d h i j o =
    let p : 0xE0 + (b - 0xE0) ≡ b = omega arith in
    let q : 0x80 + (c - 0x80) ≡ c = omega arith in
    let r : 0x80 + (d - 0x80) ≡ d = omega arith in
    let e : code3 b c d ≡ ((b - 0xE0) * 64 + (c - 0x80)) * 64 + (d - 0x80) = omega arith in
    cc (encode3 (b - 0xE0) (c - 0x80) (d - 0x80) (⊎_elim (λ x. omega arith) (λ x. omega arith) o) (omega arith) (omega arith) (omega arith))

four : (b c d e : ℕ) → In b 0xF0 0xF4 → In c 0x80 0xBF → In d 0x80 0xBF → In e 0x80 0xBF → (0xF1 ≤ b) ⊎ (0x90 ≤ c) → encode (code4 b c d e) ≡ b ∷ c ∷ d ∷ e ∷ []
four b c d e h i j k o =
    let p : 0xF0 + (b - 0xF0) ≡ b = omega arith in
    let q : 0x80 + (c - 0x80) ≡ c = omega arith in
    let r : 0x80 + (d - 0x80) ≡ d = omega arith in
    let s : 0x80 + (e - 0x80) ≡ e = omega arith in
    let t : code4 b c d e ≡ (((b - 0xF0) * 64 + (c - 0x80)) * 64 + (d - 0x80)) * 64 + (e - 0x80) = omega arith in
    cc (encode4 (b - 0xF0) (c - 0x80) (d - 0x80) (e - 0x80) (⊎_elim (λ x. omega arith) (λ x. omega arith) o) (omega arith) (omega arith) (omega arith))

-- a row of table 3-7 is the encoding of the code that it spells
pub row_encodes : {q : List ℕ} → Row q → encode (row_code q) ≡ q
unfolding encode pick
row_encodes (row1 {b} h) = simp (lt-ltb b 0x80 (omega arith))
row_encodes (row2 {b} {c} h i) = two b c h i
row_encodes (row3 {b} {c} {d} h i j) = three b c d (omega arith) (omega arith) j (inr i.0)
row_encodes (row4 {b} {c} {d} h i j) = three b c d (omega arith) i j (inl h.0)
row_encodes (row5 {b} {c} {d} h i j) = three b c d (omega arith) (omega arith) j (inl (omega arith))
row_encodes (row6 {b} {c} {d} h i j) = three b c d (omega arith) i j (inl (omega arith))
row_encodes (row7 {b} {c} {d} {e} h i j k) = four b c d e (omega arith) (omega arith) j k (inr i.0)
row_encodes (row8 {b} {c} {d} {e} h i j k) = four b c d e (omega arith) i j k (inl h.0)
row_encodes (row9 {b} {c} {d} {e} h i j k) = four b c d e (omega arith) (omega arith) j k (inl (omega arith))

-- the sequence at the start of a list of bytes is the encoding of its code
sequence_encodes : (s : List ℕ) {c w : ℕ} → sequence_at s ≡ seq c w → (w ≡ 0 → ⊥) → encode c ≡ take w s
unfolding sequence_at
sequence_encodes [] {c} {w} e n = absurd (n (sym (ap (λ (s : Sequence). s.width) e)))
sequence_encodes (b ∷ r) {c} {w} e n =
    let s = b ∷ r in
    let p : (sequence_at s).width ≡ w = ap (λ (s : Sequence). s.width) e in
    let x : Row (take w s) = rw p at (sequence_row b r (rw p n)) in
    let y : sequence_at s ≡ seq (row_code (take w s)) (length (take w s)) = rw take-append-drop at (row_sequence x (drop w s)) in
    let z : c ≡ row_code (take w s) = ap (λ (s : Sequence). s.code) (sym e ∙ y) in
    ap encode z ∙ row_encodes x

-- from any place from which the text is well-formed, its characters' encoding is what is left of it
pub encoded_from : (t : List ℕ) (cs : List Ch) (i : ℕ) → chars_from t i ≡ cs → valid_end t i ≡ length t → encode_all cs ≡ drop i t
unfolding encode_all
encoded_from t [] i e v = sym (drop_of_length-le t (none_left t i e))
encoded_from t (c ∷ cs) i e v =
    let f = first t i c cs e in
    let p = peeked t i f.seen in
    let s : sequence_at (drop i t) ≡ seq c.code c.width = rw f.place at (real_from t (c ∷ cs) i e v).0 in
    let n : c.width ≡ 0 → ⊥ = λ z. omega (arith, p.some) in
    let h = sequence_encodes (drop i t) s n in
    let r = encoded_from t cs (i + c.width) f.rest (valid_on t i c.width (ap (λ (x : Sequence). x.width) s) n ∙ v) in
    rw (h, r, ← drop-drop) (take-append-drop c.width (drop i t))

-- A VALID TEXT IS THE ENCODING OF ITS CHARACTERS
pub encoded : (t : List ℕ) → valid_prefix t ≡ length t → encode_all (chars_from t 0) ≡ t
encoded t v = encoded_from t (chars_from t 0) 0 refl (valid_all t ∙ v)
