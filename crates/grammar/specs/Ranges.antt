-- Numbers that are over range in pieces: as the place, the width and the precision of each. Rests on the records that the reader declares.
use Rattle.std.specs.Prelude.{List, [], ◌∷◌}
use Rattle.scan.specs.declared.Count.{Count}
use Rattle.scan.specs.declared.Numeral.{Numeral}
use Rattle.placeholder.specs.declared.Place.{Place}
use Rattle.reading.specs.declared.Piece.{Piece}

-- a number that is itself
abbrev pub IsWithin : Numeral → Type 0
IsWithin (Numeral.Within n) = Unit {0}
IsWithin Numeral.Over = ⊥

abbrev pub PlaceWithin : Place → Type 0
PlaceWithin (Place.Next n) = Unit {0}
PlaceWithin (Place.At n) = IsWithin n
PlaceWithin (Place.Named r) = Unit {0}

abbrev pub CountWithin : Count → Type 0
CountWithin Count.Implied = Unit {0}
CountWithin (Count.Fixed n) = IsWithin n
CountWithin (Count.ByName r s) = Unit {0}
CountWithin (Count.ByArgument n) = IsWithin n
CountWithin (Count.ByStar n) = Unit {0}

-- no piece has a number that is over range (R4.17)
abbrev pub NoneOver : List Piece → Type 0
NoneOver [] = Unit {0}
NoneOver (Piece.Literal r ∷ ps) = NoneOver ps
NoneOver (Piece.Placeholder a ∷ ps) = PlaceWithin a.place × CountWithin a.spec.width × CountWithin a.spec.precision × NoneOver ps
