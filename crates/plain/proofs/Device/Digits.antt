-- A number's digits spell it, without leading zeros, and no fewer do. Rests on the pen's `digits` and on Grammar's numbers.
use Rattle.std.specs.Prelude.{◌≡◌, refl, List, [], ◌∷◌, ℕ, ◌+◌, ◌*◌, ◌/◌, ◌%◌, ◌≤◌, ◌<◌, ltb, length}
use Rattle.std.proofs.Common.{arith, ltb-true, ltb-false}
use Rattle.utf8.specs.ChoiceLaws.{pick_elim}
use Rattle.grammar.specs.Grammar.{All, Digit, value, Number}
use Rattle.pen.specs.Pens.{digit, digits}

-- the first of some digits, and the others
abbrev pub first : List ℕ → ℕ
first [] = 0
first (d ∷ ds) = d

abbrev pub others : List ℕ → List ℕ
others [] = []
others (d ∷ ds) = ds

-- THE DIGITS l SPELL n
pub record Spell (n : ℕ) (l : List ℕ) : Type 0 where
  pub whole : l ≡ first l ∷ others l
  pub worth : value 0 (first l ∷ others l) ≡ n
  pub leads : Digit (first l)
  pub follow : All Digit (others l)
  -- "no leading zeros"
  pub no_zero : 1 ≤ n → 0x31 ≤ first l
  -- none too many
  pub one : n < 10 → length l ≤ 1
  pub two : n < 100 → length l ≤ 2
  pub three : n < 1000 → length l ≤ 3
  pub four : n < 10000 → length l ≤ 4
  pub five : length l ≤ 5

pair : (n : ℕ) → n / 10 * 10 + n % 10 ≡ n
pair n = omega arith

small : (n : ℕ) → n < 10 → n % 10 ≡ n
small n h = omega (arith, h)

is_digit_lem : (n : ℕ) → Digit (digit n)
is_digit_lem n = (omega arith, omega arith)

pub digits_spell : (n : ℕ) → n ≤ 65535 → Spell n (digits n)
unfolding digits
digits_spell n h =
    let a = pair n in
    let b = pair (n / 10) in
    let c = pair (n / 10 / 10) in
    let d = pair (n / 10 / 10 / 10) in
    let i = is_digit_lem in
    pick_elim (Spell n) (ltb n 10)
    (λ k.
    let l = ltb-true n 10 k in
    record {
      whole = refl;
      worth = omega arith;
      leads = i n;
      follow = tt;
      no_zero = λ z. omega arith;
      one = λ z. omega arith;
      two = λ z. omega arith;
      three = λ z. omega arith;
      four = λ z. omega arith;
      five = omega arith;
    }) (λ k1.
    let m1 = ltb-false n 10 k1 in
    pick_elim (Spell n) (ltb n 100)
    (λ k.
    let l = ltb-true n 100 k in
    record {
      whole = refl;
      worth = omega (arith, a);
      leads = i (n / 10);
      follow = (i n, tt);
      no_zero = λ z. omega (arith, a);
      one = λ z. omega arith;
      two = λ z. omega arith;
      three = λ z. omega arith;
      four = λ z. omega arith;
      five = omega arith;
    }) (λ k2.
    let m2 = ltb-false n 100 k2 in
    pick_elim (Spell n) (ltb n 1000)
    (λ k.
    let l = ltb-true n 1000 k in
    record {
      whole = refl;
      worth = omega (arith, a, b);
      leads = i (n / 10 / 10);
      follow = (i (n / 10), (i n, tt));
      no_zero = λ z. omega (arith, a, b);
      one = λ z. omega arith;
      two = λ z. omega arith;
      three = λ z. omega arith;
      four = λ z. omega arith;
      five = omega arith;
    }) (λ k3.
    let m3 = ltb-false n 1000 k3 in
    pick_elim (Spell n) (ltb n 10000)
    (λ k.
    let l = ltb-true n 10000 k in
    record {
      whole = refl;
      worth = omega (arith, a, b, c);
      leads = i (n / 10 / 10 / 10);
      follow = (i (n / 10 / 10), (i (n / 10), (i n, tt)));
      no_zero = λ z. omega (arith, a, b, c);
      one = λ z. omega arith;
      two = λ z. omega arith;
      three = λ z. omega arith;
      four = λ z. omega arith;
      five = omega arith;
    }) (λ k4.
    let m4 = ltb-false n 10000 k4 in
    let e = small (n / 10 / 10 / 10 / 10) (omega (arith, a, b, c, d, h)) in
    record {
      whole = refl;
      worth = omega (arith, a, b, c, d, e);
      leads = i (n / 10 / 10 / 10 / 10);
      follow = (i (n / 10 / 10 / 10), (i (n / 10 / 10), (i (n / 10), (i n, tt))));
      no_zero = λ z. omega (arith, a, b, c, d, e);
      one = λ z. omega arith;
      two = λ z. omega arith;
      three = λ z. omega arith;
      four = λ z. omega arith;
      five = omega arith;
    }))))

-- a number's own digits are as many or more
pub no_longer : (d : ℕ) (r : List ℕ) → Number d r → length (digits (value 0 (d ∷ r))) ≤ length (d ∷ r)
no_longer d [] n = let s = digits_spell (value 0 (d ∷ [])) n.small in s.one (omega (arith, n.first))
no_longer d (a ∷ []) n =
    let s = digits_spell (value 0 (d ∷ a ∷ [])) n.small in
    s.two (omega (arith, n.first, n.others.0))
no_longer d (a ∷ b ∷ []) n =
    let s = digits_spell (value 0 (d ∷ a ∷ b ∷ [])) n.small in
    s.three (omega (arith, n.first, n.others.0, n.others.1.0))
no_longer d (a ∷ b ∷ c ∷ []) n =
    let s = digits_spell (value 0 (d ∷ a ∷ b ∷ c ∷ [])) n.small in
    s.four (omega (arith, n.first, n.others.0, n.others.1.0, n.others.1.1.0))
no_longer d (a ∷ b ∷ c ∷ e ∷ r) n =
    let s = digits_spell (value 0 (d ∷ a ∷ b ∷ c ∷ e ∷ r)) n.small in
    omega (arith, s.five)
