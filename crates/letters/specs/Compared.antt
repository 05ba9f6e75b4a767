-- Tests over two tables, one pass over both, by which laws compare tables. Rests on Choice.
use Rattle.std.specs.Prelude.{ℕ, Bool, true, false, List, [], ◌∷◌, leb, ltb}
use Rattle.utf8.specs.Choice.{pick, both}

-- the ranges that end before lo are passed; the next starts past hi, and `more` holds of it and those after it
unfoldable pub clear : (List ℕ → Bool) → ℕ → ℕ → List ℕ → Bool
clear more lo hi [] = true
clear more lo hi (x ∷ []) = true
clear more lo hi (l ∷ h ∷ s) = pick (ltb h lo) (clear more lo hi s) (both (ltb hi l) (more (l ∷ h ∷ s)))

-- no number is in both tables, by one pass over both
unfoldable pub apart : List ℕ → List ℕ → Bool
apart [] b = true
apart (x ∷ []) b = true
apart (lo ∷ hi ∷ r) b = clear (λ s. apart r s) lo hi b

-- the ranges that end before lo are passed; the next holds lo to hi, and `more` holds of it and those after it
unfoldable pub held : (List ℕ → Bool) → ℕ → ℕ → List ℕ → Bool
held more lo hi [] = false
held more lo hi (x ∷ []) = false
held more lo hi (l ∷ h ∷ s) = pick (ltb h lo) (held more lo hi s) (both (leb l lo) (both (leb hi h) (more (l ∷ h ∷ s))))

-- every number of the first table is in the second, by one pass over both
unfoldable pub inside : List ℕ → List ℕ → Bool
inside [] b = true
inside (x ∷ []) b = true
inside (lo ∷ hi ∷ r) b = held (λ s. inside r s) lo hi b
