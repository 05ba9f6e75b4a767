-- Numbers laid over a list from a place on.
use Rattle.std.specs.Prelude.{ℕ, ◌+◌, List, ◌++◌, length, take, drop}

unfoldable pub laid : {A : Type 0} → List A → ℕ → List A → List A
laid old k new = take k old ++ (new ++ drop (k + length new) old)
