-- What taking a list apart comes to, a text at a time. No contract of a call cites this. Rests on seasons' laws of lists.
use Rattle.std.specs.Prelude.{◌≡◌, Bool, true, false, List, ℕ, suc, ◌+◌, ◌≤◌, length, take, drop, Option, None, Some}
use Rattle.seasons.specs.Season.{two_bytes}
use Rattle.seasons.specs.Rests.{Rest}
use Rattle.seasons.specs.Totals.{sums}

-- a text that stands at a place, behind its length, and ends at another
pub record Stands (bytes : List ℕ) (at end : ℕ) : Type 0 where
  pub size : ℕ
  pub is_end : end ≡ at + 2 + size
  pub inside : end ≤ length bytes
  pub few : size ≤ 65535
  pub said : two_bytes size ≡ take 2 (drop at bytes)

-- none stands there, whatever is to follow
abbrev pub NoneStands : List ℕ → ℕ → Type 0
NoneStands bytes at = (k : ℕ) (ts : List (List ℕ)) → ¬ Rest (suc k) (drop at bytes) ts

abbrev pub Ends : List ℕ → ℕ → Option ℕ → Type 0
Ends bytes at None = NoneStands bytes at
Ends bytes at (Some end) = Stands bytes at end

-- so many texts stand behind the first two bytes and nothing follows, or not
pub record AllAdded (bytes : List ℕ) (count : ℕ) (row : List ℕ) (r : Bool) : Type 0 where
  pub done : r ≡ true → (ts : List (List ℕ)) × (Rest count (drop 2 bytes) ts × (row ≡ sums ts))
  pub none : r ≡ false → (ts : List (List ℕ)) → ¬ Rest count (drop 2 bytes) ts
