-- Records written over the first of a list that is lent, and spans as the numbers of their list.
use Rattle.std.specs.Prelude.{ℕ, List, [], ◌∷◌, ◌++◌, length, drop}
use Rattle.frame.specs.declared.Span.{Span}

-- records over the first of a list (R1.3)
unfoldable pub over : {A : Type 0} → List A → List A → List A
over new old = new ++ drop (length new) old

-- a span is two numbers of its list: start, end (R1.8)
unfoldable pub pairs : List Span → List ℕ
pairs [] = []
pairs (x ∷ xs) = x.start.0 ∷ x.end.0 ∷ pairs xs
