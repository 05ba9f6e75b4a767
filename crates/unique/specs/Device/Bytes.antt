-- The codes of a valid text: those that its bytes are the UTF-8 of stand in it, and there are such. Rests on Stands and on `utf8`'s laws of
-- UTF-8.
use Rattle.std.specs.Prelude.{◌≡◌, refl, List, [], ◌∷◌, ◌++◌, ℕ, ◌+◌, ◌-◌, ◌*◌, ◌/◌, ◌%◌, ◌≤◌, ◌<◌, ltb, length, drop, Some}
use Rattle.std.proofs.Common.{ap, sym, ◌∙◌, arith, ltb-true, ltb-false, ne_eqb, length-append, length-drop, drop-drop}
use Rattle.std.proofs.Math.Seq.{drop-append_seam}
use Rattle.utf8.specs.Choice.{pick, within}
use Rattle.utf8.specs.ChoiceLaws.{pick_elim}
use Rattle.utf8.specs.Utf8.{low, high, seq, code2, code3, code4, sequence_of, sequence_at, char_of, decode, peek_at, valid_prefix, char}
use Rattle.utf8.specs.DecodeLaws.{decode_sequence}
use Rattle.utf8.specs.Utf8Laws.{sequence1, valid_end, valid_all, valid_on, valid_end_lem}
use Rattle.utf8.specs.Chars.{Ch, chars_from}
use Rattle.utf8.specs.Encode.{encode, encode_all}
use Rattle.utf8.specs.EncodeLaws.{encoded}
use Rattle.utf8.specs.declared.Sequence.{Sequence}
use Rattle.grammar.specs.Grammar.{utf8}
use Rattle.grammar.specs.Pieces.{wide}
use Rattle.unique.specs.Device.Stands.{wide_some, Stands}

-- THE SEQUENCE that four bytes begin with, by the first byte's range, where there is one
sequence2 : (b c d e : ℕ) → 0xC2 ≤ b → b < 0xE0 → ((sequence_of b c d e).width ≡ 0 → ⊥) → sequence_of b c d e ≡ seq (code2 b c) 2
unfolding sequence_of
sequence2 b c d e l u =
    let P : Sequence → Type 0 = λ s. (s.width ≡ 0 → ⊥) → s ≡ seq (code2 b c) 2 in
    pick_elim P (ltb b 0x80) (λ t n. absurd (omega (arith, ltb-true b 0x80 t))) (λ t.
    pick_elim P (ltb b 0xC2) (λ t n. absurd (n refl)) (λ t.
    pick_elim P (within c (low b) (high b)) (λ t.
    pick_elim P (ltb b 0xE0) (λ t n. refl) (λ t n. absurd (omega (arith, ltb-false b 0xE0 t))))
    (λ t n. absurd (n refl))))

sequence3 : (b c d e : ℕ) → 0xE0 ≤ b → b < 0xF0 → ((sequence_of b c d e).width ≡ 0 → ⊥) → sequence_of b c d e ≡ seq (code3 b c d) 3
unfolding sequence_of
sequence3 b c d e l u =
    let P : Sequence → Type 0 = λ s. (s.width ≡ 0 → ⊥) → s ≡ seq (code3 b c d) 3 in
    pick_elim P (ltb b 0x80) (λ t n. absurd (omega (arith, ltb-true b 0x80 t))) (λ t.
    pick_elim P (ltb b 0xC2) (λ t n. absurd (n refl)) (λ t.
    pick_elim P (within c (low b) (high b)) (λ t.
    pick_elim P (ltb b 0xE0) (λ t n. absurd (omega (arith, ltb-true b 0xE0 t))) (λ t.
    pick_elim P (within d 0x80 0xBF) (λ t.
    pick_elim P (ltb b 0xF0) (λ t n. refl) (λ t n. absurd (omega (arith, ltb-false b 0xF0 t))))
    (λ t n. absurd (n refl))))
    (λ t n. absurd (n refl))))

sequence4 : (b c d e : ℕ) → 0xF0 ≤ b → ((sequence_of b c d e).width ≡ 0 → ⊥) → sequence_of b c d e ≡ seq (code4 b c d e) 4
unfolding sequence_of
sequence4 b c d e l =
    let P : Sequence → Type 0 = λ s. (s.width ≡ 0 → ⊥) → s ≡ seq (code4 b c d e) 4 in
    pick_elim P (ltb b 0x80) (λ t n. absurd (omega (arith, ltb-true b 0x80 t))) (λ t.
    pick_elim P (ltb b 0xC2) (λ t n. absurd (n refl)) (λ t.
    pick_elim P (within c (low b) (high b)) (λ t.
    pick_elim P (ltb b 0xE0) (λ t n. absurd (omega (arith, ltb-true b 0xE0 t))) (λ t.
    pick_elim P (within d 0x80 0xBF) (λ t.
    pick_elim P (ltb b 0xF0) (λ t n. absurd (omega (arith, ltb-true b 0xF0 t))) (λ t.
    pick_elim P (within e 0x80 0xBF) (λ t.
    pick_elim P (ltb b 0xF5) (λ t n. refl) (λ t n. absurd (n refl)))
    (λ t n. absurd (n refl))))
    (λ t n. absurd (n refl))))
    (λ t n. absurd (n refl))))

-- a number of two digits in base 64
pair : (c : ℕ) → c / 64 * 64 + c % 64 ≡ c
pair c = omega arith

code2_of : (c : ℕ) → code2 (0xC0 + c / 64) (0x80 + c % 64) ≡ c
code2_of c = omega arith

code3_of : (c : ℕ) → code3 (0xE0 + c / 64 / 64) (0x80 + c / 64 % 64) (0x80 + c % 64) ≡ c
code3_of c = omega (arith, pair c, pair (c / 64))

code4_of : (c : ℕ) → code4 (0xF0 + c / 64 / 64 / 64) (0x80 + c / 64 / 64 % 64) (0x80 + c / 64 % 64) (0x80 + c % 64) ≡ c
code4_of c = omega (arith, pair c, pair (c / 64), pair (c / 64 / 64))

-- so the sequence at the bytes of a code, where there is one, is the code's
pub code_sequence : (c : ℕ) (s : List ℕ) → ((sequence_at (encode c ++ s)).width ≡ 0 → ⊥) → sequence_at (encode c ++ s) ≡ seq c (wide c)
unfolding encode wide sequence_at
code_sequence c s =
    let P : List ℕ → Type 0 = λ l. ((sequence_at (l ++ s)).width ≡ 0 → ⊥) → sequence_at (l ++ s) ≡ seq c (length l) in
    pick_elim P (ltb c 0x80) (λ t n. sequence1 c _ _ _ (ltb-true c 0x80 t)) (λ t1.
    let l1 = ltb-false c 0x80 t1 in
    pick_elim P (ltb c 0x800)
    (λ t n. let u = ltb-true c 0x800 t in sequence2 (0xC0 + c / 64) (0x80 + c % 64) _ _ (omega arith) (omega arith) n ∙ ap (λ k. seq k 2) (code2_of c))
    (λ t2.
    let l2 = ltb-false c 0x800 t2 in
    pick_elim P (ltb c 0x10000)
    (λ t n.
    let u = ltb-true c 0x10000 t in
    sequence3 (0xE0 + c / 64 / 64) (0x80 + c / 64 % 64) (0x80 + c % 64) _ (omega arith) (omega arith) n ∙ ap (λ k. seq k 3) (code3_of c))
    (λ t3 n.
    sequence4 (0xF0 + c / 64 / 64 / 64) (0x80 + c / 64 / 64 % 64) (0x80 + c / 64 % 64) (0x80 + c % 64) (omega arith) n ∙ ap (λ k. seq k 4) (code4_of c))))

code_length : (c : ℕ) (s : List ℕ) → length (encode c ++ s) ≡ wide c + length s
unfolding wide
code_length c s = length-append (encode c) s

code_drop : (c : ℕ) (s : List ℕ) → drop (wide c) (encode c ++ s) ≡ s
unfolding wide
code_drop c s = drop-append_seam (encode c) s

-- a sequence that is there is a character
char_there : (c w : ℕ) → 0 < w → char_of (seq c w) ≡ Some (char c w)
unfolding char_of pick
char_there c w h = rw (ne_eqb w 0 (λ e. omega arith))

-- THE CODES of a text that is valid from a place on stand there
stands_from : (t cs : List ℕ) (i : ℕ) → drop i t ≡ utf8 cs → i ≤ length t → valid_end t i ≡ length t → Stands t i cs
unfolding utf8 peek_at
stands_from t [] i e l v = omega (arith, length-drop i t, ap length e)
stands_from t (c ∷ cs) i e l v =
    let w = wide c in
    let some = wide_some c in
    let len : length t - i ≡ w + length (utf8 cs) = sym (length-drop i t) ∙ (ap length e ∙ code_length c (utf8 cs)) in
    let n : (sequence_at (drop i t)).width ≡ 0 → ⊥ = λ z. omega (arith, valid_end_lem t i z) in
    let s : sequence_at (drop i t) ≡ seq c w = rw e (code_sequence c (utf8 cs) (rw e at n)) in
    let p : decode (drop i t) ≡ Some (char c w) = decode_sequence t i (omega arith) ∙ (ap char_of s ∙ char_there c w some) in
    let r : drop (i + w) t ≡ utf8 cs = sym (drop-drop w i t) ∙ (ap (drop w) e ∙ code_drop c (utf8 cs)) in
    let k : valid_end t (i + w) ≡ length t = valid_on t i w (ap (λ (x : Sequence). x.width) s) (λ z. omega arith) ∙ v in
    (p, stands_from t cs (i + w) r (omega arith) k)

-- the codes whose UTF-8 a valid text is stand in it
pub stands_in : (t cs : List ℕ) → valid_prefix t ≡ length t → utf8 cs ≡ t → Stands t 0 cs
stands_in t cs v e = stands_from t cs 0 (sym e) (omega arith) (valid_all t ∙ v)

-- THERE ARE SUCH CODES
codes_of : List Ch → List ℕ
codes_of [] = []
codes_of (c ∷ cs) = c.code ∷ codes_of cs

codes_spell : (cs : List Ch) → utf8 (codes_of cs) ≡ encode_all cs
unfolding utf8 codes_of encode_all
codes_spell [] = refl
codes_spell (c ∷ cs) = ap (λ l. encode c.code ++ l) (codes_spell cs)

-- the codes of a text
pub codes : List ℕ → List ℕ
codes t = codes_of (chars_from t 0)

pub codes_text : (t : List ℕ) → valid_prefix t ≡ length t → utf8 (codes t) ≡ t
unfolding codes
codes_text t v = codes_spell (chars_from t 0) ∙ encoded t v
