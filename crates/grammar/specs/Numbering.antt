-- The numbers of implicit places and stars in pieces, and that numbers go up by one. Rests on the records that the reader declares.
use Rattle.std.specs.Prelude.{◌≡◌, List, [], ◌∷◌, ℕ, ◌+◌}
use Rattle.scan.specs.declared.Count.{Count}
use Rattle.placeholder.specs.declared.Place.{Place}
use Rattle.reading.specs.declared.Piece.{Piece}

-- a star's number, and a place's that is not written
abbrev pub star_number : Count → List ℕ → List ℕ
star_number Count.Implied ns = ns
star_number (Count.Fixed k) ns = ns
star_number (Count.ByName r q) ns = ns
star_number (Count.ByArgument k) ns = ns
star_number (Count.ByStar i) ns = i ∷ ns

abbrev pub place_number : Place → List ℕ → List ℕ
place_number (Place.Next i) ns = i ∷ ns
place_number (Place.At k) ns = ns
place_number (Place.Named r) ns = ns

-- "implicit places and stars", in order, "a star before its own placeholder's place"
unfoldable pub numbers : List Piece → List ℕ
numbers [] = []
numbers (Piece.Literal r ∷ xs) = numbers xs
numbers (Piece.Placeholder y ∷ xs) = star_number y.spec.precision (place_number y.place (numbers xs))

-- numbers that go n, n + 1, n + 2 onward
abbrev pub UpFrom : ℕ → List ℕ → Type 0
UpFrom n [] = Unit {0}
UpFrom n (i ∷ ns) = (i ≡ n) × UpFrom (n + 1) ns
