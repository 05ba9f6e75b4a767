-- How many arguments some pieces want: "one more than the largest argument number in any piece's place, width, precision or star, and 0 if none
-- has a number. Over-range cases add nothing".
use Rattle.std.specs.Prelude.{ℕ, ◌+◌, List, [], ◌∷◌, ltb}
use Rattle.utf8.specs.Choice.{pick}
use Rattle.scan.specs.declared.Count.{Count}
use Rattle.scan.specs.declared.Numeral.{Numeral}
use Rattle.placeholder.specs.declared.Argument.{Argument}
use Rattle.placeholder.specs.declared.Place.{Place}
use Rattle.reading.specs.declared.Piece.{Piece}

-- the larger of two numbers
unfoldable pub larger : ℕ → ℕ → ℕ
larger a b = pick (ltb a b) b a

-- an argument's number that is written: over range, nothing (R5.18)
abbrev pub numeral_wants : Numeral → ℕ
numeral_wants (Numeral.Within n) = n + 1
numeral_wants Numeral.Over = 0

-- a place's: the number that it takes, or the one written (R5.17)
abbrev pub place_wants : Place → ℕ
place_wants (Place.Next n) = n + 1
place_wants (Place.At x) = numeral_wants x
place_wants (Place.Named r) = 0

-- a width's or a precision's: a number that is fixed is no argument's (R5.17)
abbrev pub count_wants : Count → ℕ
count_wants Count.Implied = 0
count_wants (Count.Fixed x) = 0
count_wants (Count.ByName r s) = 0
count_wants (Count.ByArgument x) = numeral_wants x
count_wants (Count.ByStar n) = n + 1

-- an argument's: the largest of the three (R5.17)
unfoldable pub argument_wants : Argument → ℕ
argument_wants a = larger (place_wants a.place) (larger (count_wants a.spec.width) (count_wants a.spec.precision))

abbrev pub piece_wants : Piece → ℕ
piece_wants (Piece.Literal r) = 0
piece_wants (Piece.Placeholder a) = argument_wants a

-- HOW MANY ARGUMENTS PIECES WANT (R5.17)
unfoldable pub wants : List Piece → ℕ
wants [] = 0
wants (x ∷ xs) = larger (piece_wants x) (wants xs)
