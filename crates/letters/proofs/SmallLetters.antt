-- Small letters: from 0x61 on they alone start or continue an identifier in ASCII; and what continues one as ASCII is ASCII. Rests on Ascii.
use Rattle.std.specs.Prelude.{ℕ, ◌≤◌, ◌<◌, ◌≡◌, refl, Bool, true, false, leb, ltb}
use Rattle.std.proofs.Common.{sym, ◌∙◌, true≢false, arith, le-leb, ne_eqb, ltb-true, ltb-false}
use Rattle.std.proofs.lemmas.Bool.{lt-leb}
use Rattle.utf8.specs.Choice.{within}
use Rattle.utf8.specs.ChoiceLaws.{either_false}
use Rattle.letters.specs.Ascii.{ascii_start, ascii_continue}

-- from 0x61 on only the small letters start an identifier
pub small_start : (b : ℕ) → 0x61 ≤ b → ascii_start b ≡ leb b 0x7A
unfolding ascii_start within
small_start b l = simp (le-leb 0x61 b l, le-leb 0x41 b (omega arith), lt-leb b 0x5A (omega arith), ne_eqb b 0x5F (omega arith), either_false)

-- from 0x61 on only the small letters continue one
pub small_continue : (b : ℕ) → 0x61 ≤ b → ascii_continue b ≡ leb b 0x7A
unfolding ascii_continue within
small_continue b l = simp (le-leb 0x30 b (omega arith), lt-leb b 0x39 (omega arith)) (small_start b l)

-- what continues one as ASCII is ASCII
pub continue_low : (b : ℕ) → ascii_continue b ≡ true → b < 0x80
continue_low b y = go (ltb b 0x80) refl
  where
    go : (x : Bool) → ltb b 0x80 ≡ x → b < 0x80
    go true e = ltb-true b 0x80 e
    go false e =
        let h = ltb-false b 0x80 e in
        absurd (true≢false (sym y ∙ small_continue b (omega arith) ∙ lt-leb b 0x7A (omega arith)))
