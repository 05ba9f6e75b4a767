-- A block of bytes: how many of them pass a test. Rests on nothing of this crate.
use Rattle.std.specs.Prelude.{ℕ, zero, suc, ◌+◌, ◌-◌, ◌≤◌, ◌≡◌, Bool, true, false, not, List, ◌⊎◌, leb, length, get_or}

-- 1 for a test that holds, else 0
abbrev pub one : Bool → ℕ
one true = 1
one false = 0

-- how many of the n bytes from place i on pass the test
unfoldable pub how_many : (ℕ → Bool) → List ℕ → ℕ → ℕ → ℕ
how_many f t i zero = 0
how_many f t i (suc n) = how_many f t i n + one (f (get_or t (i + n) 0))

-- a byte that is no ASCII character
abbrev pub is_high : ℕ → Bool
is_high b = leb 0x80 b

-- a byte that is an ASCII character
abbrev pub is_low : ℕ → Bool
is_low b = not (is_high b)

-- the bytes from place i to place j, which is i itself or not past a stop, are ASCII
abbrev pub AsciiTo : List ℕ → ℕ → ℕ → ℕ → Type 0
AsciiTo t i stop j = (i ≤ j) × (j ≤ length t) × ((j ≡ i) ⊎ (j ≤ stop)) × (how_many is_high t i (j - i) ≡ 0)
