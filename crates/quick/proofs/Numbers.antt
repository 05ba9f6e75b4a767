-- Laws of a number of at most four digits, a byte at a time. Rests on Bytes and `scan`'s definition of a number.
use Rattle.std.specs.Prelude.{Some}
use Prim.Native.Nat.{ℕ, zero, suc, ◌+◌, ◌-◌, ◌*◌, ◌≤◌, ◌<◌}
use mathlib.Core.Path.{◌≡◌, refl, sym, ◌∙◌, ap}
use mathlib.Core.Bool.{Bool, true, false, true≢false}
use mathlib.Core.List.{List}
use native.Mathlib.Omega.{arith}
use borrow.Author.Tests.{ne_eqb, ltb-true, ltb-false, le-ltb}
use lib.Dec.{ltb}
use lib.ListN.{length, get_or}
use Rattle.utf8.specs.Choice.{pick}
use Rattle.utf8.specs.Chars.{take_while, run_end}
use Rattle.utf8.specs.CharLaws.{run_more}
use Rattle.frame.specs.Places.{place, range_of}
use Rattle.scan.specs.Words.{is_digit, decimal, numeral, digits_at, number_from, number_read}
use Rattle.scan.specs.declared.Flaw.{Flaw}
use Rattle.scan.specs.declared.NumberRead.{NumberRead}
use Rattle.scan.specs.declared.Numeral.{Numeral}
use Rattle.quick.specs.PartsTold.{Room, NumberTold}
use Rattle.scan.specs.AsciiWordLaws.{byte_in}
use Rattle.quick.proofs.Bytes.{digit_range, digit_seen, no_digit}

-- ten to the power k
abbrev pub ten : ℕ → ℕ
ten zero = 1
ten (suc k) = 10 * ten k

-- the number read at a place, where its digits before place i spell n
unfoldable pub rest : List ℕ → ℕ → ℕ → ℕ → NumberRead
rest t n at i = number_from (numeral (decimal n (digits_at t (place i)))) (place at) (place (run_end is_digit t i))

-- with no digit before, it is the number read
rest_all : (t : List ℕ) (at : ℕ) → rest t 0 at at ≡ number_read t (place at)
unfolding rest number_read
rest_all t at = refl

module _ (t : List ℕ) (n at i : ℕ) where
  -- one digit more
  rest_more : is_digit (get_or t i 0) ≡ true → rest t (n * 10 + (get_or t i 0 - 0x30)) at (i + 1) ≡ rest t n at i
  unfolding rest digits_at take_while decimal pick
  rest_more y = let p = digit_seen t i y in simp (run_more is_digit p y, p.list, y)

  -- no digit more: n is the number read
  rest_stop : is_digit (get_or t i 0) ≡ false → n ≤ 65535 → at < i →
      rest t n at i ≡ record { number = Some (Numeral.Within n); digits = range_of (place at) (place i); flaw = Flaw.Clean }
  unfolding rest decimal numeral number_from pick
  rest_stop z l h =
      rw (
        (no_digit t i z).0,
        (no_digit t i z).1,
        ne_eqb at i (omega arith),
        le-ltb 65535 n l,
      )

-- the digits from a place to another, at most four, spell v
pub record Spelt (t : List ℕ) (at v i : ℕ) : Type 0 where
  pub on : at ≤ i
  pub few : i ≤ at + 4
  pub inside : i ≤ length t
  pub less : v < ten (i - at)
  pub most : v ≤ 9999
  pub same : rest t v at i ≡ number_read t (place at)

-- none spell 0
pub spelt_none : {t : List ℕ} {at : ℕ} → Room t at → Spelt t at 0 at
spelt_none {t} {at} r =
    let z : at - at ≡ 0 = omega arith in
    record {
      on = omega arith;
      few = omega arith;
      inside = r.within;
      less = rw z (omega arith);
      most = omega arith;
      same = rest_all t at;
    }

-- below four digits one more keeps the number below 10,000
pub spelt_few : {t : List ℕ} {at v i : ℕ} → Spelt t at v i → i < at + 4 → v ≤ 999
spelt_few {at = at} {v} {i} s h = go (i - at) (omega (arith, s.on)) s.less
  where
    go : (k : ℕ) → k ≤ 3 → v < ten k → v ≤ 999
    go zero l u = omega arith
    go (suc zero) l u = omega arith
    go (suc (suc zero)) l u = omega arith
    go (suc (suc (suc zero))) l u = omega arith
    go (suc (suc (suc (suc k)))) l u = absurd (omega arith)

-- one digit more
pub spelt_more : {t : List ℕ} {at v i b : ℕ} → Spelt t at v i → i < at + 4 → b ≡ get_or t i 0 → is_digit b ≡ true →
    Spelt t at (v * 10 + (b - 0x30)) (i + 1)
spelt_more {t} {at} {v} {i} {b} s h e y =
    let d : is_digit (get_or t i 0) ≡ true = rw e at y in
    let r = digit_range y in
    let l = byte_in t i (omega arith) in
    let few = spelt_few s h in
    let z : i + 1 - at ≡ suc (i - at) = omega (arith, s.on) in
    let less = s.less in
    record {
      on = omega (arith, s.on);
      few = omega arith;
      inside = omega arith;
      less = rw z (omega arith);
      most = omega arith;
      same = rw e (rest_more t v at i d ∙ s.same);
    }

-- no digit more: the number is told
pub spelt_stop : {t : List ℕ} {at v i : ℕ} → Spelt t at v i → is_digit (get_or t at 0) ≡ true → is_digit (get_or t i 0) ≡ false →
    NumberTold t at (record { value = v; end = i })
spelt_stop {t} {at} {v} {i} s y z =
    record {
      read = sym s.same ∙ rest_stop t v at i z (omega (arith, s.most)) (go (ltb at i) refl);
      inside = s.inside;
    }
  where
    go : (x : Bool) → ltb at i ≡ x → at < i
    go true e = ltb-true at i e
    go false e =
        let q : at ≡ i = omega (arith, s.on, ltb-false at i e) in
        absurd (true≢false (sym y ∙ ap (λ (k : ℕ). is_digit (get_or t k 0)) q ∙ z))
