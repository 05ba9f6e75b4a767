-- How many arguments pieces want is told by what they say, so that pieces which say the same want as many. Rests on plain's Said and reading's Wants.
use Rattle.std.specs.Prelude.{◌≡◌, ℕ, ◌+◌}
use Rattle.std.proofs.Math.Path.{refl}
use Rattle.std.proofs.Common.{ap, sym, ◌∙◌}
use mathlib.Core.List.{List, [], ◌∷◌}
use Rattle.scan.specs.declared.Count.{Count}
use Rattle.placeholder.specs.declared.Place.{Place}
use Rattle.reading.specs.Wants.{larger, numeral_wants, place_wants, count_wants, argument_wants, piece_wants, wants}
use Rattle.reading.specs.declared.Piece.{Piece}
use Rattle.plain.specs.Said.{SaidPlace, next, at, named, SaidCount, implied, fixed, by_argument, by_star, by_name, SaidPiece, literal, argument, said_place, said_count, said_piece, said}

abbrev place_says : SaidPlace → ℕ
place_says (next i) = i + 1
place_says (at n) = numeral_wants n
place_says (named name) = 0

abbrev count_says : SaidCount → ℕ
count_says implied = 0
count_says (fixed n) = 0
count_says (by_argument n) = numeral_wants n
count_says (by_star i) = i + 1
count_says (by_name name) = 0

abbrev piece_says : SaidPiece → ℕ
piece_says (literal text) = 0
piece_says (argument place spec) = larger (place_says place) (larger (count_says spec.width) (count_says spec.precision))

says : List SaidPiece → ℕ
says [] = 0
says (x ∷ xs) = larger (piece_says x) (says xs)

module _ (t : List ℕ) where
  place_says_lem : (p : Place) → place_says (said_place t p) ≡ place_wants p
  place_says_lem (Place.Next i) = refl
  place_says_lem (Place.At n) = refl
  place_says_lem (Place.Named r) = refl

  count_says_lem : (c : Count) → count_says (said_count t c) ≡ count_wants c
  count_says_lem Count.Implied = refl
  count_says_lem (Count.Fixed n) = refl
  count_says_lem (Count.ByName r s) = refl
  count_says_lem (Count.ByArgument n) = refl
  count_says_lem (Count.ByStar i) = refl

  piece_says_lem : (x : Piece) → piece_says (said_piece t x) ≡ piece_wants x
  unfolding argument_wants
  piece_says_lem (Piece.Literal r) = refl
  piece_says_lem (Piece.Placeholder a) = rw (place_says_lem a.place, count_says_lem a.spec.width, count_says_lem a.spec.precision)

  all_says : (xs : List Piece) → says (said t xs) ≡ wants xs
  unfolding wants says
  all_says [] = refl
  all_says (x ∷ xs) = rw (piece_says_lem x, all_says xs)

-- THE SAME SAID, AS MANY WANTED
pub same_wants : (t u : List ℕ) (xs ys : List Piece) → said t xs ≡ said u ys → wants xs ≡ wants ys
same_wants t u xs ys e = sym (all_says t xs) ∙ (ap says e ∙ all_says u ys)
