-- How much the totals grow by one text: they keep their number, and each grows by less than 0x100000.
use Rattle.std.specs.Prelude.{◌≡◌, List, ℕ, ◌+◌, ◌≤◌, length, get_or}

pub record Grown (row row' : List ℕ) : Type 0 where
  pub same : length row' ≡ length row
  pub few : (i : ℕ) → get_or row' i 0 ≤ get_or row i 0 + 0x100000
