-- What is written: the bytes behind those that a writer held, and a shape with its numbers.
use Rattle.std.specs.Prelude.{ℕ, List, [], ◌∷◌, ◌++◌, ◌==◌, Option, Result, OnOk, decimal}
use Rattle.std.specs.Io.KnownBytes.{Appends}
use Rattle.utf8.specs.Choice.{pick}

-- on `Ok` the bytes stand behind those that were there
abbrev pub Wrote : {E A : Type 0} → Result A E → Option (List ℕ) → Option (List ℕ) → List ℕ → Type 0
Wrote r old new bs = OnOk r (Appends old new bs)

-- a shape with its numbers: the first `#` stands for the first, every later one for the second
unfoldable pub shaped : List ℕ → ℕ → ℕ → List ℕ
shaped [] first second = []
shaped (b ∷ bs) first second = pick (b == 35) (decimal first ++ shaped bs second second) (b ∷ shaped bs first second)
