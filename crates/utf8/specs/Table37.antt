-- Well-formed UTF-8, as table 3-7 of the Unicode Standard has it, a row to a constructor. Rests on nothing of this crate.
use Rattle.std.specs.Prelude.{ℕ, ◌≤◌, List, [], ◌∷◌, ◌++◌}

-- b is one of lo to hi
abbrev pub In : ℕ → ℕ → ℕ → Type 0
In b lo hi = (lo ≤ b) × (b ≤ hi)

-- the bytes are one well-formed sequence (R3.1)
pub data Row : List ℕ → Type 0 where
  row1 : {b : ℕ} → In b 0x00 0x7F → Row (b ∷ [])
  row2 : {b c : ℕ} → In b 0xC2 0xDF → In c 0x80 0xBF → Row (b ∷ c ∷ [])
  row3 : {b c d : ℕ} → In b 0xE0 0xE0 → In c 0xA0 0xBF → In d 0x80 0xBF → Row (b ∷ c ∷ d ∷ [])
  row4 : {b c d : ℕ} → In b 0xE1 0xEC → In c 0x80 0xBF → In d 0x80 0xBF → Row (b ∷ c ∷ d ∷ [])
  row5 : {b c d : ℕ} → In b 0xED 0xED → In c 0x80 0x9F → In d 0x80 0xBF → Row (b ∷ c ∷ d ∷ [])
  row6 : {b c d : ℕ} → In b 0xEE 0xEF → In c 0x80 0xBF → In d 0x80 0xBF → Row (b ∷ c ∷ d ∷ [])
  row7 : {b c d e : ℕ} → In b 0xF0 0xF0 → In c 0x90 0xBF → In d 0x80 0xBF → In e 0x80 0xBF → Row (b ∷ c ∷ d ∷ e ∷ [])
  row8 : {b c d e : ℕ} → In b 0xF1 0xF3 → In c 0x80 0xBF → In d 0x80 0xBF → In e 0x80 0xBF → Row (b ∷ c ∷ d ∷ e ∷ [])
  row9 : {b c d e : ℕ} → In b 0xF4 0xF4 → In c 0x80 0x8F → In d 0x80 0xBF → In e 0x80 0xBF → Row (b ∷ c ∷ d ∷ e ∷ [])

-- the bytes are well-formed sequences, one after the other (R3.1)
pub data WellFormed : List ℕ → Type 0 where
  none : WellFormed []
  more : {q r : List ℕ} → Row q → WellFormed r → WellFormed (q ++ r)
