-- Laws of the decoding: the bytes that it looks at, and a sequence's width. Rests on Utf8.
use Rattle.std.specs.Prelude.{ℕ, zero, suc, ◌+◌, ◌≤◌, ◌<◌, List, [], ◌∷◌, ◌≡◌, refl, Bool, true, false, eqb, length, get_or, drop, Option, Some, None}
use Rattle.std.proofs.Common.{suc-le-suc, le_trans, arith, sym, ◌∙◌, ap, subst, lit≤, length-drop, drop-cons, get_or-drop, lt-ltb, ltb-false, eqb-true}
use Rattle.std.proofs.Math.Numerals.{unary_clauses}
use Rattle.std.proofs.lemmas.Bool.{eqb-false}
use Rattle.utf8.specs.Choice.{pick, within}
use Rattle.utf8.specs.ChoiceLaws.{pick_elim, within_low}
use Rattle.utf8.specs.Utf8.{low, high, seq, code2, code3, code4, sequence_of, sequence_at, char_of, decode, char}
use Rattle.utf8.specs.declared.Sequence.{Sequence}
use Rattle.utf8.specs.declared.Char.{Char}

-- two characters that are the same have one code and one width
abbrev code_in : Option Char → ℕ
code_in None = 0
code_in (Some x) = x.code

abbrev width_in : Option Char → ℕ
width_in None = 0
width_in (Some x) = x.width

module _ {a b c d : ℕ} (e : Some (char a b) ≡ Some (char c d)) where
  pub same_code : a ≡ c
  same_code = ap code_in e

  pub same_width : b ≡ d
  same_width = ap width_in e

-- the least second byte is at least 0x80
low_least : (b : ℕ) → 0x80 ≤ low b
unfolding low pick
low_least b = go (eqb b 0xE0) (eqb b 0xF0)
  where
    go : (p q : Bool) → 0x80 ≤ pick p 0xA0 (pick q 0x90 0x80)
    go true q = lit≤ tt
    go false true = lit≤ tt
    go false false = lit≤ tt

-- a byte that can stand second is at least 0x80
pub second_low : {c : ℕ} (b : ℕ) → within c (low b) (high b) ≡ true → 0x80 ≤ c
second_low b t = le_trans (low_least b) (within_low (low b) (high b) t)

-- within a text the character is the one of the sequence there
pub decode_sequence : (t : List ℕ) (i : ℕ) → i < length t → decode (drop i t) ≡ char_of (sequence_at (drop i t))
unfolding decode
decode_sequence t i h = rw (drop-cons t i 0)

-- the bytes of the sequence at a place, by their places in the text
pub sequence_bytes : (t : List ℕ) (i : ℕ) → i < length t → sequence_at (drop i t) ≡ sequence_of (get_or t i 0) (get_or t (i + 1) 0) (get_or t (i + 2) 0) (get_or t (i + 3) 0)
unfolding sequence_at
sequence_bytes t i h = rw (drop-cons t i 0) (simp (get_or-drop, unary_clauses))

-- a byte below 0x80 is a sequence of its own
pub ascii_sequence : (t : List ℕ) (i : ℕ) → i < length t → get_or t i 0 < 0x80 → sequence_at (drop i t) ≡ seq (get_or t i 0) 1
unfolding sequence_of pick
ascii_sequence t i h l = sequence_bytes t i h ∙ simp (lt-ltb (get_or t i 0) 0x80 l)

-- what the width of a sequence says of its later bytes
pub record Wide (c d e w : ℕ) : Type 0 where
  pub most : w ≤ 4
  pub has2 : 2 ≤ w → 0x80 ≤ c
  pub has3 : 3 ≤ w → 0x80 ≤ d
  pub has4 : 4 ≤ w → 0x80 ≤ e

-- a sequence is as its width says
wide : (b c d e : ℕ) → Wide c d e (sequence_of b c d e).width
unfolding sequence_of
wide b c d e =
    let P : Sequence → Type 0 = λ s. Wide c d e s.width in
    pick_elim P _ (λ t. omega arith) (λ t.
    pick_elim P _ (λ t. omega arith) (λ t.
    pick_elim P _ (λ t. let h = second_low b t in
    pick_elim P _ (λ t. omega arith) (λ t.
    pick_elim P _ (λ t. let k = within_low 0x80 0xBF t in
    pick_elim P _ (λ t. omega arith) (λ t.
    pick_elim P _ (λ t. let l = within_low 0x80 0xBF t in pick_elim P _ (λ t. omega arith) (λ t. omega arith))
    (λ t. omega arith)))
    (λ t. omega arith)))
    (λ t. omega arith)))

-- the code that the first bytes spell, as many as a width says
abbrev pub code_of : ℕ → ℕ → ℕ → ℕ → ℕ → ℕ
code_of b c d e zero = 0
code_of b c d e (suc zero) = b
code_of b c d e (suc (suc zero)) = code2 b c
code_of b c d e (suc (suc (suc zero))) = code3 b c d
code_of b c d e (suc (suc (suc (suc w)))) = code4 b c d e

-- what the width of a sequence says of its first byte and of its code
pub record Spells (b c d e : ℕ) (s : Sequence) : Type 0 where
  pub from2 : 2 ≤ s.width → 0xC0 ≤ b
  pub from3 : 3 ≤ s.width → 0xE0 ≤ b
  pub from4 : 4 ≤ s.width → 0xF0 ≤ b
  pub code : s.code ≡ code_of b c d e s.width

spells : (b c d e : ℕ) → Spells b c d e (sequence_of b c d e)
unfolding sequence_of
spells b c d e =
    let P : Sequence → Type 0 = λ s. Spells b c d e s in
    pick_elim P _ (λ t. omega arith) (λ t.
    pick_elim P _ (λ t. omega arith) (λ t. let h = ltb-false b 0xC2 t in
    pick_elim P _ (λ t.
    pick_elim P _ (λ t. omega arith) (λ t. let k = ltb-false b 0xE0 t in
    pick_elim P _ (λ t.
    pick_elim P _ (λ t. omega arith) (λ t. let l = ltb-false b 0xF0 t in
    pick_elim P _ (λ t. pick_elim P _ (λ t. omega arith) (λ t. omega arith))
    (λ t. omega arith)))
    (λ t. omega arith)))
    (λ t. omega arith)))

-- a byte that is not 0 stands in the list
get_d_in : (r : List ℕ) (i : ℕ) → 1 ≤ get_or r i 0 → i < length r
get_d_in [] i h = omega arith
get_d_in (x ∷ r) zero h = omega arith
get_d_in (x ∷ r) (suc i) h = suc-le-suc (get_d_in r i h)

-- so it is within the list
room : (b : ℕ) (r : List ℕ) (w : ℕ) → Wide (get_or r 0 0) (get_or r 1 0) (get_or r 2 0) w → w ≤ length (b ∷ r)
room b r zero h = omega arith
room b r (suc zero) h = omega arith
room b r (suc (suc zero)) h = let k = get_d_in r 0 (omega (arith, h.has2 (omega arith))) in omega arith
room b r (suc (suc (suc zero))) h = let k = get_d_in r 1 (omega (arith, h.has3 (omega arith))) in omega arith
room b r (suc (suc (suc (suc w)))) h = let k = get_d_in r 2 (omega (arith, h.has4 (omega arith))) in omega (arith, h.most)

-- a character at the start of a list of bytes is one to four bytes wide, and within the list
pub record Fitting (s : List ℕ) (w : ℕ) : Type 0 where
  pub some : 1 ≤ w
  pub most : w ≤ 4
  pub room : w ≤ length s

-- a character of a sequence, and of a list of bytes, is so
char_fitting : (b : ℕ) (r : List ℕ) (s : Sequence) → Wide (get_or r 0 0) (get_or r 1 0) (get_or r 2 0) s.width → {c w : ℕ} → char_of s ≡ Some (char c w) → Fitting (b ∷ r) w
unfolding char_of
char_fitting b r s h {c} {w} = pick_elim (λ n. n ≡ Some (char c w) → Fitting (b ∷ r) w) (eqb s.width 0)
    (λ t e. let q = same_width e in omega arith)
    (λ t e.
    let q = same_width e in
    let z = eqb-false s.width 0 t in
    record { some = omega arith; most = omega (arith, h.most); room = room b r w (subst (Wide _ _ _) q h) })

pub decode_fitting : (s : List ℕ) {c w : ℕ} → decode s ≡ Some (char c w) → Fitting s w
unfolding decode sequence_at
decode_fitting [] {c} {w} e = let z : ◌≡◌ {A = ℕ} 0 1 = cc in omega arith
decode_fitting (b ∷ r) e = char_fitting b r _ (wide b _ _ _) e

-- a sequence at the start of a list of bytes is within the list
pub sequence_room : (s : List ℕ) → (sequence_at s).width ≤ length s
unfolding sequence_at
sequence_room [] = omega arith
sequence_room (b ∷ r) = room b r _ (wide b _ _ _)

-- where there is none, no code
pub no_code : (s : List ℕ) → (sequence_at s).width ≡ 0 → (sequence_at s).code ≡ 0
unfolding sequence_at
no_code [] e = refl
no_code (b ∷ r) e = (spells b _ _ _).code ∙ ap (code_of b _ _ _) e

-- A SEQUENCE OF A WIDTH: its bytes stand in the text, and they spell its code
pub record Spelled (t : List ℕ) (i w : ℕ) : Type 0 where
  pub room : i + w ≤ length t
  pub from2 : 2 ≤ w → 0xC0 ≤ get_or t i 0
  pub from3 : 3 ≤ w → 0xE0 ≤ get_or t i 0
  pub from4 : 4 ≤ w → 0xF0 ≤ get_or t i 0
  pub others : Wide (get_or t (i + 1) 0) (get_or t (i + 2) 0) (get_or t (i + 3) 0) w
  pub code : (k : ℕ) → w ≡ k → (sequence_at (drop i t)).code ≡ code_of (get_or t i 0) (get_or t (i + 1) 0) (get_or t (i + 2) 0) (get_or t (i + 3) 0) k

pub spelled : (t : List ℕ) (i w : ℕ) → w ≡ (sequence_at (drop i t)).width → (w ≡ 0 → ⊥) → Spelled t i w
spelled t i w q n =
    let h : i + w ≤ length t = omega (arith, sequence_room (drop i t), length-drop i t, n) in
    let e = sequence_bytes t i (omega (arith, h, n)) in
    let v = q ∙ ap (λ (s : Sequence). s.width) e in
    let p = spells (get_or t i 0) (get_or t (i + 1) 0) (get_or t (i + 2) 0) (get_or t (i + 3) 0) in
    record {
      room = h;
      from2 = rw v p.from2;
      from3 = rw v p.from3;
      from4 = rw v p.from4;
      others = rw v (wide (get_or t i 0) _ _ _);
      code = λ k m. ap (λ (s : Sequence). s.code) e ∙ p.code ∙ ap (code_of _ _ _ _) (sym v ∙ m);
    }

-- by the least second byte, three and four bytes spell no code below 0x80
three_high : (b c d : ℕ) → 0xE0 ≤ b → low b ≤ c → 0x80 ≤ code3 b c d
unfolding low
three_high b c d l = pick_elim (λ (m : ℕ). m ≤ c → 0x80 ≤ code3 b c d) (eqb b 0xE0)
    (λ t h. omega arith)
    (λ t h. let n = eqb-false b 0xE0 t in omega (arith, n))

four_high : (b c d e : ℕ) → 0xF0 ≤ b → low b ≤ c → 0x80 ≤ code4 b c d e
unfolding low
four_high b c d e l =
    let P : ℕ → Type 0 = λ m. m ≤ c → 0x80 ≤ code4 b c d e in
    pick_elim P (eqb b 0xE0) (λ t h. let m = eqb-true b 0xE0 t in absurd (omega arith)) (λ t.
    pick_elim P (eqb b 0xF0) (λ t h. omega arith) (λ t h. let n = eqb-false b 0xF0 t in omega (arith, n)))

-- a sequence that spells a code below 0x80 is that byte
pub sequence_ascii : (b c d e : ℕ) → ((sequence_of b c d e).width ≡ 0 → ⊥) → (sequence_of b c d e).code < 0x80 → sequence_of b c d e ≡ seq b 1
unfolding sequence_of
sequence_ascii b c d e =
    let P : Sequence → Type 0 = λ s. (s.width ≡ 0 → ⊥) → s.code < 0x80 → s ≡ seq b 1 in
    pick_elim P _ (λ t n l. refl) (λ t.
    pick_elim P _ (λ t n l. absurd (n refl)) (λ t2.
    let b2 = ltb-false b 0xC2 t2 in
    pick_elim P _ (λ s.
    let h = within_low (low b) (high b) s in
    pick_elim P _ (λ t n l. absurd (omega arith)) (λ t3.
    let b3 = ltb-false b 0xE0 t3 in
    pick_elim P _ (λ v.
    pick_elim P _ (λ t n l. absurd (omega (arith, three_high b c d b3 h))) (λ t4.
    let b4 = ltb-false b 0xF0 t4 in
    pick_elim P _ (λ x.
    pick_elim P _ (λ t n l. absurd (omega (arith, four_high b c d e b4 h))) (λ t n l. absurd (n refl)))
    (λ t n l. absurd (n refl))))
    (λ t n l. absurd (n refl))))
    (λ t n l. absurd (n refl))))

-- a character below 0x80 is its first byte
pub char_byte : (b c d e : ℕ) {k w : ℕ} → char_of (sequence_of b c d e) ≡ Some (char k w) → k < 0x80 → (b ≡ k) × (w ≡ 1)
unfolding char_of
char_byte b c d e {k} {w} =
    let s = sequence_of b c d e in
    pick_elim (λ (n : Option Char). n ≡ Some (char k w) → k < 0x80 → (b ≡ k) × (w ≡ 1)) (eqb s.width 0)
    (λ t q l. let z = same_code q in absurd (omega arith))
    (λ t q l.
    let p = same_code q in
    let r = same_width q in
    let f = sequence_ascii b c d e (eqb-false s.width 0 t) (omega arith) in
    (ap (λ (x : Sequence). x.code) (sym f) ∙ p, sym r ∙ ap (λ (x : Sequence). x.width) f))

-- a character is as its width says
pub char_wide : (b c d e : ℕ) {k w : ℕ} → char_of (sequence_of b c d e) ≡ Some (char k w) → Wide c d e w
unfolding char_of
char_wide b c d e {k} {w} =
    let s = sequence_of b c d e in
    pick_elim (λ (n : Option Char). n ≡ Some (char k w) → Wide c d e w) (eqb s.width 0)
    (λ t q. let r = same_width q in omega arith)
    (λ t q. let r = same_width q in subst (Wide c d e) r (wide b c d e))
