-- A table of closed ranges: a list of numbers, lo and hi in turn. Rests on Choice.
use Rattle.std.specs.Prelude.{ℕ, suc, Bool, true, false, List, [], ◌∷◌, leb}
use Rattle.utf8.specs.Choice.{both, either}

-- some range holds c
unfoldable pub member : List ℕ → ℕ → Bool
member [] c = false
member (x ∷ []) c = false
member (lo ∷ hi ∷ r) c = either (both (leb lo c) (leb c hi)) (member r c)

-- the list is ranges, the first starts at p or later, and each starts past the end of the one before
unfoldable pub ascending : ℕ → List ℕ → Bool
ascending p [] = true
ascending p (x ∷ []) = false
ascending p (lo ∷ hi ∷ r) = both (leb p lo) (both (leb lo hi) (ascending (suc hi) r))
