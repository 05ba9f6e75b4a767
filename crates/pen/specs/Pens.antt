-- Bytes laid over a lent buffer from a place on, as far as it goes; and the bytes of a number and of a part of a text.
use Rattle.std.specs.Prelude.{ℕ, zero, suc, ◌+◌, ◌-◌, ◌/◌, ◌%◌, ◌≤◌, ◌≡◌, List, [], ◌∷◌, ltb, length, take, drop}
use Rattle.utf8.specs.Choice.{pick}
use Rattle.frame.specs.declared.TextRange.{TextRange}

-- the bytes new over the bytes old from place k on, as far as old goes
unfoldable pub over : List ℕ → ℕ → List ℕ → List ℕ
over [] k new = []
over (b ∷ old) zero [] = b ∷ old
over (b ∷ old) zero (c ∷ new) = c ∷ over old zero new
over (b ∷ old) (suc k) new = b ∷ over old k new

-- laid at a place: where the pen stands afterwards, and the buffer
pub record Laid (old : List ℕ) (at : ℕ) (new : List ℕ) (past : ℕ) (exit : List ℕ) : Type 0 where
  pub place : past ≡ at + length new
  pub bytes : exit ≡ over old at new

-- no place that a pen comes to is beyond counting
abbrev pub Fits : ℕ → List ℕ → Type 0
Fits at new = at + length new ≤ 0xFFFFFFFF

-- A NUMBER up to 65,535 in decimal digits, without leading zeros: five at most
abbrev pub digit : ℕ → ℕ
digit n = 0x30 + n % 10

unfoldable pub digits : ℕ → List ℕ
digits n =
    pick (ltb n 10) (digit n ∷ [])
    (pick (ltb n 100) (digit (n / 10) ∷ digit n ∷ [])
    (pick (ltb n 1000) (digit (n / 10 / 10) ∷ digit (n / 10) ∷ digit n ∷ [])
    (pick (ltb n 10000) (digit (n / 10 / 10 / 10) ∷ digit (n / 10 / 10) ∷ digit (n / 10) ∷ digit n ∷ [])
    (digit (n / 10 / 10 / 10 / 10) ∷ digit (n / 10 / 10 / 10) ∷ digit (n / 10 / 10) ∷ digit (n / 10) ∷ digit n ∷ []))))

-- A PART of a text: the bytes of a range, as far as the text goes
abbrev pub text_of : List ℕ → TextRange → List ℕ
text_of t r = take (r.end.0 - r.start.0) (drop r.start.0 t)
