-- Laws of numbers that wrap with the overflow noted, and of the digits at a place. Rests on Words, Wrapping and on `utf8`'s laws of runs.
use Rattle.std.proofs.Common.{◌≡◌, ℕ, ◌+◌, ◌-◌, ◌*◌, ◌/◌, ◌%◌, ◌<◌, ◌≤◌, Bool, true, false, ◌||◌, ltb, List, sym, refl, ap, ◌∙◌, suc-le-suc, lt_of_lt_of_le, mod-eq_of_lt, arith, ltb-false, ltb-true, le-ltb, lt-ltb, None}
use native.Mathlib.Nat.{mod-add-mod, add-mod-mod, add-mul-mod_self_left}
use Rattle.utf8.specs.Choice.{pick, either}
use Rattle.utf8.specs.Utf8.{peek_at}
use Rattle.utf8.specs.Chars.{take_while, run_end}
use Rattle.utf8.specs.CharLaws.{Peeked, ended, run_more, run_stop, run_end_lem}
use Rattle.frame.specs.Places.{place}
use Rattle.frame.specs.declared.TextPlace.{TextPlace}
use Rattle.scan.specs.Words.{is_digit, decimal, numeral, digits_at, number_from, number_read}
use Rattle.scan.specs.Wrapping.{noted, told, told_noted}
use Rattle.scan.specs.declared.Noted.{Noted}
use Rattle.scan.specs.declared.NumberRead.{NumberRead}

-- one of some tests holds, as the code asks and as `either` does
pub one_of_three : (a b c : Bool) → (a || b) || c ≡ either a (either b c)
one_of_three true b c = refl
one_of_three false b c = go b
  where
    go : (b : Bool) → b || c ≡ either b c
    go true = refl
    go false = refl

pub one_of_four : (a b c d : Bool) → ((a || b) || c) || d ≡ either a (either b (either c d))
one_of_four true b c d = refl
one_of_four false b c d = one_of_three b c d

-- two tests are equal where each way the first falls the second does
same : (p q : Bool) → (p ≡ true → q ≡ true) → (p ≡ false → q ≡ false) → p ≡ q
same true q f g = sym (f refl)
same false q f g = sym (g refl)

-- likewise of a test made of two
either_same : (p r q : Bool) → (p ≡ true → q ≡ true) → (p ≡ false → r ≡ q) → either p r ≡ q
either_same true r q f g = sym (f refl)
either_same false r q f g = g refl

-- a number as it is kept, by its two parts
noted_by_lem : (n : ℕ) {v : ℕ} {o : Bool} → v ≡ n % 65536 → o ≡ ltb 65535 n → record { value = v; over = o } ≡ noted n
unfolding noted
noted_by_lem n p q = λ i. record { value = p i; over = q i }

-- the two parts of a number as it is kept
value_of : {k : Noted} (n : ℕ) → k ≡ noted n → k.value ≡ n % 65536
unfolding noted
value_of n e = ap (λ (k : Noted). k.value) e

over_of : {k : Noted} (n : ℕ) → k ≡ noted n → k.over ≡ ltb 65535 n
unfolding noted
over_of n e = ap (λ (k : Noted). k.over) e

-- a number that is not too large is kept as it is
kept : {v n : ℕ} → v ≡ n % 65536 → ltb 65535 n ≡ false → v ≡ n
kept {v} {n} e t = e ∙ mod-eq_of_lt (suc-le-suc (ltb-false 65535 n t))

-- a number that is no less than one that is too large is too large
over : (n m : ℕ) → ltb 65535 n ≡ true → n ≤ m → ltb 65535 m ≡ true
over n m t h = lt-ltb 65535 m (lt_of_lt_of_le (ltb-true 65535 n t) h)

-- a sum wraps where it comes out below a part
pub sum_noted : (a b s : ℕ) → a < 65536 → b < 65536 → s ≡ (a + b) % 65536 → record { value = s; over = ltb s a } ≡ noted (a + b)
sum_noted a b s ha hb e =
    noted_by_lem (a + b) e
    (same (ltb s a) (ltb 65535 (a + b))
    (λ t. let h = ltb-true s a t in lt-ltb 65535 (a + b) (omega arith))
    (λ t. let h = ltb-false s a t in le-ltb 65535 (a + b) (omega arith)))

-- ten times x is too large where 2x, 4x, 5x or 10x is, each made of the one before
ten_over : (x a b c : ℕ) → a ≡ (x + x) % 65536 → b ≡ (a + a) % 65536 → c ≡ (b + x) % 65536 →
    either (ltb 65535 (x + x)) (either (ltb 65535 (a + a)) (either (ltb 65535 (b + x)) (ltb 65535 (c + c)))) ≡ ltb 65535 (x * 10)
ten_over x a b c ea eb ec =
    either_same _ _ _ (λ t. over (x + x) (x * 10) t (omega arith))
    (λ t.
    let wa = kept ea t in
    either_same _ _ _ (λ t. over (a + a) (x * 10) t (rw wa (omega arith)))
    (λ t.
    let wb = kept eb t in
    either_same _ _ _ (λ t. over (b + x) (x * 10) t (rw (wb, wa) (omega arith)))
    (λ t. let q : c + c ≡ x * 10 = rw (kept ec t, wb, wa) (omega arith) in ap (ltb 65535) q)))

-- ten times x, from 2x, 4x, 5x and 10x
pub ten_noted : (x : ℕ) (a b c d : Noted) {o : Bool} → a ≡ noted (x + x) → b ≡ noted (a.value + a.value) → c ≡ noted (b.value + x) →
    d ≡ noted (c.value + c.value) → o ≡ either a.over (either b.over (either c.over d.over)) →
    record { value = d.value; over = o } ≡ noted (x * 10)
ten_noted x a b c d {o} ea eb ec ed eo =
    let q : x + x + (x + x) + x + (x + x + (x + x) + x) ≡ x * 10 = omega arith in
    noted_by_lem (x * 10)
    (value_of _ ed ∙ simp (value_of _ ec, value_of _ eb, value_of _ ea, mod-add-mod, add-mod-mod, q))
    (eo ∙ simp (over_of _ ea, over_of _ eb, over_of _ ec, over_of _ ed) (ten_over x _ _ _ (value_of _ ea) (value_of _ eb) (value_of _ ec)))

-- wrapping before the product changes nothing
times_wrap : (m : ℕ) → (m % 65536 * 10) % 65536 ≡ (m * 10) % 65536
times_wrap m =
    let e : m * 10 ≡ m % 65536 * 10 + 65536 * (m / 65536 * 10) = omega arith in
    sym (ap (λ (k : ℕ). k % 65536) e ∙ add-mul-mod_self_left (m % 65536 * 10) 65536 (m / 65536 * 10))

-- a number with a digit after it is too large where it was, where ten times it is, or where the sum is
digit_over : (m n t d : ℕ) → n ≡ m % 65536 → t ≡ (n * 10) % 65536 →
    either (ltb 65535 m) (either (ltb 65535 (n * 10)) (ltb 65535 (t + d))) ≡ ltb 65535 (m * 10 + d)
digit_over m n t d en et =
    either_same _ _ _ (λ q. over m (m * 10 + d) q (omega arith))
    (λ q.
    let wn = kept en q in
    either_same _ _ _ (λ q. over (n * 10) (m * 10 + d) q (rw wn (omega arith)))
    (λ q. let r : t + d ≡ m * 10 + d = rw (kept et q, wn) in ap (ltb 65535) r))

-- a number m with a digit after it; an overflow that was noted stays noted
pub digit_noted : (n t s : Noted) (d m : ℕ) {o : Bool} → n ≡ noted m → t ≡ noted (n.value * 10) → s ≡ noted (t.value + d) →
    o ≡ either n.over (either t.over s.over) → record { value = s.value; over = o } ≡ noted (m * 10 + d)
digit_noted n t s d m {o} en et es eo =
    noted_by_lem (m * 10 + d) (value_of _ es ∙ simp (value_of _ et, value_of m en, times_wrap, mod-add-mod))
    (eo ∙ simp (over_of m en, over_of _ et, over_of _ es) (digit_over m _ _ d (value_of m en) (value_of _ et)))

-- the number read at a place, where its digits before place i spell n
unfoldable pub rest : List ℕ → ℕ → TextPlace → ℕ → NumberRead
rest t n at i = number_from (numeral (decimal n (digits_at t (place i)))) at (place (run_end is_digit t i))

-- with no digit before, it is the number read
pub rest_all : (t : List ℕ) (at : TextPlace) → rest t 0 at at.0 ≡ number_read t at
unfolding rest number_read digits_at
rest_all t at = refl

module _ {t : List ℕ} {i : ℕ} (n : ℕ) (at : TextPlace) where
  -- one digit more
  pub rest_more : {c w : ℕ} → Peeked t i c w → is_digit c ≡ true → rest t (n * 10 + (c - 0x30)) at (i + w) ≡ rest t n at i
  unfolding rest digits_at take_while decimal pick
  rest_more p y = simp (run_more is_digit p y, p.list, y)

  -- no digit more: what is told of it is the number read
  pub rest_stop : {k : Noted} {c w : ℕ} → k ≡ noted n → Peeked t i c w → is_digit c ≡ false → number_from (told k) at (place i) ≡ rest t n at i
  unfolding rest digits_at take_while decimal pick
  rest_stop e p y = simp (e, told_noted n, run_stop is_digit p y, p.list, y)

-- likewise where the text ends
pub rest_end : (t : List ℕ) (i n : ℕ) (at : TextPlace) {k : Noted} → k ≡ noted n → peek_at t i ≡ None → number_from (told k) at (place i) ≡ rest t n at i
unfolding rest digits_at take_while decimal
rest_end t i n at e d = simp (e, told_noted n, run_end_lem is_digit t i d, ended t i d)
