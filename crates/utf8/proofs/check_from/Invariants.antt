-- `utf8::check_from` meets its contract. The invariant: the well-formed sequences from `i` end where those from `at` do, since each turn passes
-- blocks of ASCII and one sequence more, and the bytes passed less those behind the first of their character, with the characters from `i` on, are the
-- count from `at` on; the loop stops where there is no sequence. The measure is what is left of the text. Assumes nothing.
use Prim.Native.Nat.{ℕ, ◌+◌, ◌-◌, ◌≤◌}
use mathlib.Core.Path.{◌≡◌}
use mathlib.Core.List.{List}
use lib.ListN.{length}
use Rattle.utf8.specs.Utf8Laws.{valid_end}
use Rattle.utf8.specs.Chars.{chars_of}
use Rattle.utf8.proofs.check_from.Given as goal

-- the characters from place k on, to where the sequences from `at` end
abbrev pub left : List ℕ → ℕ → ℕ → ℕ
left t at k = length (chars_of t k (valid_end t at))

-- a place of the check: within the text, no less than one byte for each character, and nothing lost
abbrev pub Stands : List ℕ → ℕ → ℕ → ℕ → Type 0
Stands t at i n = (i ≤ length t) × (at + n ≤ i) × (valid_end t i ≡ valid_end t at) × (n + left t at i ≡ left t at at)

-- with so many bytes behind the first of their character
pub record Lags (t : List ℕ) (at i later : ℕ) : Type 0 where
  pub few : at + later ≤ i
  pub stands : Stands t at i (i - at - later)

abbrev pub invariant-loop-at : goal.invariant-loop-at
invariant-loop-at l = Lags l.text l.at l.i l.later

abbrev pub decreases-loop-at : goal.decreases-loop-at
decreases-loop-at l = length l.text - l.i
