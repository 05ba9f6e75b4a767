-- Where two lists of bytes part: how many bytes both start with.
use Rattle.std.specs.Prelude.{List, [], ◌∷◌, ℕ, suc, eqb}
use Rattle.utf8.specs.Choice.{pick}

unfoldable pub shared : List ℕ → List ℕ → ℕ
shared [] ys = 0
shared (x ∷ xs) [] = 0
shared (x ∷ xs) (y ∷ ys) = pick (eqb x y) (suc (shared xs ys)) 0
