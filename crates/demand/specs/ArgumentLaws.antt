-- What the figure of some pieces says: no number of an implicit place or a star is at or above it, and no span counts for it.
-- Rests on Wants, Numbering and Spanless.
use Rattle.std.specs.Prelude.{◌≡◌, refl, ℕ, ◌≤◌, ◌<◌}
use Rattle.std.proofs.Common.{ap, ◌∙◌, arith}
use mathlib.Core.List.{List, [], ◌∷◌}
use Rattle.scan.specs.declared.Count.{Count}
use Rattle.placeholder.specs.declared.Argument.{Argument}
use Rattle.placeholder.specs.declared.Place.{Place}
use Rattle.reading.specs.Wants.{larger, place_wants, count_wants, argument_wants, piece_wants, wants}
use Rattle.reading.specs.declared.Piece.{Piece}
use Rattle.laws.specs.WantLaws.{larger_left, larger_right}
use Rattle.grammar.specs.Numbering.{star_number, place_number, numbers}
use Rattle.grammar.specs.Spanless as S
use Rattle.unique.specs.Device.AnyFrame.{argument_wants_lem}

-- each number is below another
abbrev pub Below : ℕ → List ℕ → Type 0
Below b [] = Unit {0}
Below b (n ∷ ns) = (n < b) × Below b ns

module _ (b : ℕ) where
  star_below : (x : Count) (ns : List ℕ) → count_wants x ≤ b → Below b ns → Below b (star_number x ns)
  star_below Count.Implied ns h l = l
  star_below (Count.Fixed k) ns h l = l
  star_below (Count.ByName r q) ns h l = l
  star_below (Count.ByArgument k) ns h l = l
  star_below (Count.ByStar i) ns h l = (omega (arith, h), l)

  place_below : (x : Place) (ns : List ℕ) → place_wants x ≤ b → Below b ns → Below b (place_number x ns)
  place_below (Place.Next i) ns h l = (omega (arith, h), l)
  place_below (Place.At k) ns h l = l
  place_below (Place.Named r) ns h l = l

  -- an argument's numbers are below what it wants
  argument_below : (x : Argument) (ns : List ℕ) → argument_wants x ≤ b → Below b ns → Below b (star_number x.spec.precision (place_number x.place ns))
  unfolding argument_wants
  argument_below x ns h l =
      let p = place_wants x.place in
      let w = count_wants x.spec.width in
      let k = count_wants x.spec.precision in
      let counts = larger_right p (larger w k) in
      star_below x.spec.precision _ (omega (arith, h, counts, larger_right w k))
      (place_below x.place ns (omega (arith, h, larger_left p (larger w k))) l)

  -- and so are those of pieces
  pub numbers_below : (xs : List Piece) → wants xs ≤ b → Below b (numbers xs)
  unfolding wants numbers
  numbers_below [] h = tt
  numbers_below (Piece.Literal r ∷ xs) h = numbers_below xs (omega (arith, h, larger_right 0 (wants xs)))
  numbers_below (Piece.Placeholder x ∷ xs) h =
      argument_below x (numbers xs) (omega (arith, h, larger_left (argument_wants x) (wants xs)))
      (numbers_below xs (omega (arith, h, larger_right (argument_wants x) (wants xs))))

-- a piece wants what it wants without its spans
piece_wants_lem : (x : Piece) → piece_wants x ≡ piece_wants (S.piece x)
piece_wants_lem (Piece.Literal r) = refl
piece_wants_lem (Piece.Placeholder x) = argument_wants_lem x

pub wants_spanless : (xs : List Piece) → wants xs ≡ wants (S.pieces xs)
unfolding wants
wants_spanless [] = refl
wants_spanless (x ∷ xs) = ap (λ (n : ℕ). larger n (wants xs)) (piece_wants_lem x) ∙ ap (larger (piece_wants (S.piece x))) (wants_spanless xs)
