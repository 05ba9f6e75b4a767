-- Choice by a test, tests joined, and a closed range. Rests on nothing of this crate.
use Rattle.std.specs.Prelude.{ℕ, Bool, true, false, leb}

-- a if the test holds, else b
unfoldable pub pick : {A : Type 0} → Bool → A → A → A
pick true a b = a
pick false a b = b

-- both tests hold
abbrev pub both : Bool → Bool → Bool
both true b = b
both false b = false

-- at least one of the tests holds
abbrev pub either : Bool → Bool → Bool
either true b = true
either false b = b

-- lo ≤ x ≤ hi
unfoldable pub within : ℕ → ℕ → ℕ → Bool
within x lo hi = both (leb lo x) (leb x hi)
