-- `utf8::chars_between` meets its contract. The invariant: what was counted with the characters from `i` on is the count from `at` on, since each
-- turn passes blocks of ASCII and one character more; the loop stops at `end` or at the end of the text, where none is left. The measure is what
-- is left of the text. Assumes nothing.
use Prim.Native.Nat.{ℕ, ◌+◌, ◌-◌, ◌≤◌}
use mathlib.Core.Path.{◌≡◌}
use mathlib.Core.List.{List}
use lib.ListN.{length}
use Rattle.utf8.specs.Chars.{chars_of}
use Rattle.utf8.proofs.chars_between.Given as goal

-- a place of the count: within the text, no less than one byte for each character, and nothing lost
abbrev pub Stands : List ℕ → ℕ → ℕ → ℕ → ℕ → Type 0
Stands t at e i n = (i ≤ length t) × (at + n ≤ i) × (n + length (chars_of t i e) ≡ length (chars_of t at e))

abbrev pub invariant-loop-at : goal.invariant-loop-at
invariant-loop-at l = Stands l.text l.at l.end l.i l.chars

abbrev pub decreases-loop-at : goal.decreases-loop-at
decreases-loop-at l = length l.text - l.i
