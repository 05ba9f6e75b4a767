-- Laws of ASCII: below 0x80 the short tests answer as the tables do, by one computed test each. Rests on Ascii and Questions.
use Rattle.std.specs.Prelude.{ℕ, zero, suc, ◌<◌, ◌≡◌, refl, Bool, true, false, ◌⊎◌, T}
use Rattle.std.proofs.Common.{◌∙◌, inl, inr, le_of_suc-le-suc, eq-or-lt_of_le, arith, le-leb, ne_eqb}
use Rattle.std.proofs.lemmas.Bool.{lt-leb}
use Rattle.utf8.specs.Choice.{both, within}
use Rattle.letters.specs.Table.{member}
use Rattle.letters.specs.TableLaws.{left_of, right_of}
use Rattle.letters.specs.Space.{space}
use Rattle.letters.specs.Start.{start}
use Rattle.letters.specs.Continue.{continue}
use Rattle.letters.specs.Questions.{is_space, is_start, is_continue}
use Rattle.letters.specs.Ascii.{ascii_space, ascii_start, ascii_continue}

-- two answers are the same
abbrev same : Bool → Bool → Bool
same true true = true
same true false = false
same false true = false
same false false = true

-- two tests answer alike below n
unfoldable alike : (ℕ → Bool) → (ℕ → Bool) → ℕ → Bool
alike f g zero = true
alike f g (suc n) = both (same (f n) (g n)) (alike f g n)

-- so they do, where the computed test says so
alike_holds : (f g : ℕ → Bool) (n : ℕ) → T (alike f g n) → (c : ℕ) → c < n → f c ≡ g c
unfolding alike
alike_holds f g zero t c h = absurd (omega arith)
alike_holds f g (suc n) t c h = go (eq-or-lt_of_le (le_of_suc-le-suc h)) (alike_holds f g n (right_of (same (f n) (g n)) (alike f g n) t) c)
  where
    one : (a b : Bool) → T (same a b) → a ≡ b
    one true true t = refl
    one true false t = absurd t
    one false true t = absurd t
    one false false t = refl

    go : (c ≡ n) ⊎ (c < n) → (c < n → f c ≡ g c) → f c ≡ g c
    go (inl e) k = rw e (one (f n) (g n) (left_of (same (f n) (g n)) (alike f g n) t))
    go (inr l) k = k l

-- below 0x80 the tests are the questions
pub ascii_space_lem : (c : ℕ) → c < 0x80 → is_space c ≡ ascii_space c
unfolding alike is_space member space ascii_space within
ascii_space_lem c h = alike_holds is_space ascii_space 0x80 tt c h

pub ascii_start_lem : (c : ℕ) → c < 0x80 → is_start c ≡ ascii_start c
unfolding alike is_start member start ascii_start within
ascii_start_lem c h = alike_holds is_start ascii_start 0x80 tt c h

pub ascii_continue_lem : (c : ℕ) → c < 0x80 → is_continue c ≡ ascii_continue c
unfolding alike is_continue member continue ascii_start ascii_continue within
ascii_continue_lem c h = alike_holds is_continue ascii_continue 0x80 tt c h

-- an ASCII character above the space is no whitespace
pub above_space : (c : ℕ) → 0x20 < c → c < 0x80 → is_space c ≡ false
unfolding ascii_space within
above_space c l h = ascii_space_lem c h ∙ simp (ne_eqb c 0x20 (omega arith), le-leb 9 c (omega arith), lt-leb c 13 (omega arith))

-- and below 0x41 nothing does
pub no_start : (b : ℕ) → b < 0x41 → ascii_start b ≡ false
unfolding ascii_start within
no_start b l = simp (lt-leb 0x61 b (omega arith), lt-leb 0x41 b l, ne_eqb b 0x5F (omega arith))
