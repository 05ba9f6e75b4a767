-- A LIST OF TEXTS as bytes, and what a list comes to. Nothing here says how bytes are taken apart. Rests on Totals.
use Rattle.std.specs.Prelude.{◌≡◌, ◌⊎◌, List, [], ◌∷◌, ◌++◌, ℕ, ◌/◌, ◌%◌, ◌≤◌, length}
use Rattle.seasons.specs.Totals.{zeros, sums}
use Rattle.seasons.specs.declared.Season.{Season}

-- "two bytes, low byte first" (R14.1)
abbrev pub two_bytes : ℕ → List ℕ
two_bytes n = n % 256 ∷ n / 256 ∷ []

-- "each with a two-byte length before it" (R14.1)
unfoldable pub written : List (List ℕ) → List ℕ
written [] = []
written (t ∷ ts) = two_bytes (length t) ++ (t ++ written ts)

-- each has at most 65,535 bytes
abbrev pub Short : List (List ℕ) → Type 0
Short [] = Unit {0}
Short (t ∷ ts) = (length t ≤ 65535) × Short ts

-- BYTES ARE A LIST of some texts: "a count of two bytes, low byte first, then each with a two-byte length before it"; "at most 10,000 texts" (R14.1, R14.2)
pub record IsList (bytes : List ℕ) (ts : List (List ℕ)) : Type 0 where
  pub whole : bytes ≡ two_bytes (length ts) ++ written ts
  pub few : length ts ≤ 10000
  pub short : Short ts

-- WHAT BYTES COME TO: 0 and the sums where they are a list (R14.6)
pub record Summed (bytes : List ℕ) (r : Season) (ts : List (List ℕ)) : Type 0 where
  pub list : IsList bytes ts
  pub number : r.number ≡ 0
  pub totals : r.totals ≡ sums ts

-- "25 for too many texts or a list that breaks off or runs on, with no totals" (R14.7)
pub record Unlisted (bytes : List ℕ) (r : Season) : Type 0 where
  pub none : (ts : List (List ℕ)) → ¬ IsList bytes ts
  pub number : r.number ≡ 25
  pub totals : r.totals ≡ zeros

abbrev pub Counted : List ℕ → Season → Type 0
Counted bytes r = ((ts : List (List ℕ)) × Summed bytes r ts) ⊎ Unlisted bytes r
