-- Laws of blocks: a block of which no byte passes a test, or all do, and what passes a block byte by byte. Rests on Blocks, and on the laws
-- of characters and of UTF-8.
use Rattle.std.specs.Prelude.{ℕ, zero, suc, ◌+◌, ◌-◌, ◌≤◌, ◌<◌, ◌≡◌, refl, Bool, true, false, not, List, ◌⊎◌, length, get_or}
use Rattle.std.proofs.Common.{◌∙◌, ap, inl, inr, add-zero, zero-add, add-suc, add_assoc, le_of_suc-le-suc, eq-or-lt_of_le, arith, leb-false}
use Rattle.std.proofs.lemmas.Bool.{not-false}
use Rattle.utf8.specs.Chars.{run_end}
use Rattle.utf8.specs.CharLaws.{places_on, byte_more}
use Rattle.utf8.specs.DecodeLaws.{ascii_sequence}
use Rattle.utf8.specs.Utf8Laws.{valid_end, valid_on}
use Rattle.utf8.specs.declared.Sequence.{Sequence}
use Rattle.utf8.specs.Blocks.{one, how_many, is_high, AsciiTo}

-- what 0 and what anything else says of the test
pub one_none : (x : Bool) → one x ≡ 0 → x ≡ false
one_none true e = absurd (omega arith)
one_none false e = refl

pub one_some : (x : Bool) → (one x ≡ 0 → ⊥) → x ≡ true
one_some true n = refl
one_some false n = absurd (n refl)

-- where none passes, each byte fails the test
pub how_many_none : (f : ℕ → Bool) (t : List ℕ) (i n : ℕ) → how_many f t i n ≡ 0 → (k : ℕ) → k < n → f (get_or t (i + k) 0) ≡ false
unfolding how_many
how_many_none f t i zero e k h = absurd (omega arith)
how_many_none f t i (suc n) e k h = go (how_many_none f t i n (omega arith) k) (eq-or-lt_of_le (le_of_suc-le-suc h))
  where
    go : (k < n → f (get_or t (i + k) 0) ≡ false) → (k ≡ n) ⊎ (k < n) → f (get_or t (i + k) 0) ≡ false
    go r (inl q) = rw q (one_none (f (get_or t (i + n) 0)) (omega arith))
    go r (inr l) = r l

-- a byte that fails the test
pub how_many_one : (f : ℕ → Bool) (t : List ℕ) (i : ℕ) → f (get_or t i 0) ≡ false → how_many f t i 1 ≡ 0
unfolding how_many
how_many_one f t i e = simp (add-zero, e)

-- a byte passes a test or fails it
one_either : (x : Bool) → one x + one (not x) ≡ 1
one_either true = refl
one_either false = refl

pub how_many_either : (f : ℕ → Bool) (t : List ℕ) (i n : ℕ) → how_many f t i n + how_many (λ b. not (f b)) t i n ≡ n
unfolding how_many
how_many_either f t i zero = refl
how_many_either f t i (suc n) = omega (arith, how_many_either f t i n, one_either (f (get_or t (i + n) 0)))

-- a block of two parts
pub how_many_add : (f : ℕ → Bool) (t : List ℕ) (i n m : ℕ) → how_many f t i (n + m) ≡ how_many f t i n + how_many f t (i + n) m
unfolding how_many
how_many_add f t i n zero = simp add-zero
how_many_add f t i n (suc m) = simp (add-suc, add_assoc, how_many_add f t i n m)

-- a block of four times eight bytes
pub thirty_two : (f : ℕ → Bool) (t : List ℕ) (i : ℕ) →
    how_many f t i 8 + how_many f t (i + 8) 8 + how_many f t (i + 16) 8 + how_many f t (i + 24) 8 ≡ how_many f t i 32
thirty_two f t i = omega (arith, how_many_add f t i 8 8, how_many_add f t i 16 8, how_many_add f t i 24 8)

-- a block of eight bytes, one by one
pub eight : (f : ℕ → Bool) (t : List ℕ) (i : ℕ) {a b c d e g h j : ℕ} →
    a ≡ one (f (get_or t i 0)) → b ≡ one (f (get_or t (i + 1) 0)) → c ≡ one (f (get_or t (i + 2) 0)) → d ≡ one (f (get_or t (i + 3) 0)) →
    e ≡ one (f (get_or t (i + 4) 0)) → g ≡ one (f (get_or t (i + 5) 0)) → h ≡ one (f (get_or t (i + 6) 0)) → j ≡ one (f (get_or t (i + 7) 0)) →
    a + b + c + d + e + g + h + j ≡ how_many f t i 8
unfolding how_many
eight f t i p0 p1 p2 p3 p4 p5 p6 p7 = simp (add-zero, zero-add, p0, p1, p2, p3, p4, p5, p6, p7)

-- ASCII BYTES: none, a block of them, the last block before a stop, and one run after another
pub ascii_none : (t : List ℕ) (i stop : ℕ) → i ≤ length t → AsciiTo t i stop i
unfolding how_many
ascii_none t i stop h = let z : i - i ≡ 0 = omega arith in (omega arith, h, inl refl, rw z refl)

pub ascii_block : (t : List ℕ) (i stop n : ℕ) → i + n ≤ stop → stop ≤ length t → how_many is_high t i n ≡ 0 → AsciiTo t i stop (i + n)
ascii_block t i stop n l h e =
    let z : i + n - i ≡ n = omega arith in
    (omega arith, omega arith, inr l, ap (how_many is_high t i) z ∙ e)

pub ascii_last : (t : List ℕ) (i stop n : ℕ) → i ≤ stop → stop ≤ length t → n ≤ stop → stop ≤ i + n → how_many is_high t (stop - n) n ≡ 0 → AsciiTo t i stop stop
ascii_last t i stop n l h m k e =
    let p : n ≡ (i - (stop - n)) + (stop - i) = omega arith in
    let q : stop - n + (i - (stop - n)) ≡ i = omega arith in
    let s = how_many_add is_high t (stop - n) (i - (stop - n)) (stop - i) in
    let z = ap (how_many is_high t (stop - n)) p in
    let w = ap (λ (x : ℕ). how_many is_high t x (stop - i)) q in
    (l, h, inr (omega arith), omega (arith, s, z, w, e))

pub ascii_join : (t : List ℕ) (i stop j k : ℕ) → AsciiTo t i stop j → AsciiTo t j stop k → AsciiTo t i stop k
ascii_join t i stop j k a b =
    let p : k - i ≡ (j - i) + (k - j) = omega (arith, a.0, b.0) in
    let q : i + (j - i) ≡ j = omega (arith, a.0) in
    let s = how_many_add is_high t i (j - i) (k - j) in
    let z = ap (how_many is_high t i) p in
    let w = ap (λ (x : ℕ). how_many is_high t x (k - j)) q in
    (omega (arith, a.0, b.0), b.1, by a.2 b.2, omega (arith, s, z, w, a.3, b.3))
  where
    by : (j ≡ i) ⊎ (j ≤ stop) → (k ≡ j) ⊎ (k ≤ stop) → (k ≡ i) ⊎ (k ≤ stop)
    by (inl x) (inl y) = inl (y ∙ x)
    by (inr x) (inl y) = inr (omega arith)
    by x (inr y) = inr y

-- A BLOCK OF ASCII IS WELL-FORMED
pub valid_block : (t : List ℕ) (i n : ℕ) → i + n ≤ length t → how_many is_high t i n ≡ 0 → valid_end t (i + n) ≡ valid_end t i
valid_block t i n h e = places_on (valid_end t) i n
    (λ k l.
    let b = leb-false 0x80 (get_or t (i + k) 0) (how_many_none is_high t i n e k l) in
    valid_on t (i + k) 1 (ap (λ (s : Sequence). s.width) (ascii_sequence t (i + k) (omega arith) b)) (omega arith))

-- A RUN PASSES A BLOCK of which every byte passes the test, where the test holds of each character that is not ASCII
pub run_block : (f : ℕ → Bool) → ((c : ℕ) → 0x80 ≤ c → f c ≡ true) → (t : List ℕ) (i n : ℕ) → i + n ≤ length t →
    how_many f t i n ≡ n → run_end f t (i + n) ≡ run_end f t i
run_block f g t i n h e =
    let z : how_many (λ b. not (f b)) t i n ≡ 0 = omega (arith, how_many_either f t i n) in
    places_on (run_end f t) i n
    (λ k l. byte_more f g t (i + k) (omega arith) (not-false _ (how_many_none (λ b. not (f b)) t i n z k l)))
