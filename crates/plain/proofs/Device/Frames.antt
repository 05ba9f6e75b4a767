-- What pieces say does not go by the frame. Rests on Said and unique's AnyFrame.
use Rattle.std.specs.Prelude.{◌≡◌, refl, List, [], ◌∷◌, ℕ, Option, Some, None}
use Rattle.std.proofs.Common.{ap, sym, ◌∙◌}
use Rattle.frame.specs.declared.Frame.{Frame}
use Rattle.frame.specs.declared.Mode.{Mode}
use Rattle.scan.specs.declared.Count.{Count}
use Rattle.placeholder.specs.declared.Fill.{Fill}
use Rattle.reading.specs.Lists.{pieces}
use Rattle.reading.specs.declared.Piece.{Piece}
use Rattle.grammar.specs.Spanless as N
use Rattle.unique.specs.Device.AnyFrame.{pieces_any}
use Rattle.plain.specs.Said.{said_fill, said_count, said_piece, said}

module _ (t : List ℕ) where
  fill_spanless : (x : Option Fill) → said_fill t (N.fill x) ≡ said_fill t x
  fill_spanless None = refl
  fill_spanless (Some f) = refl

  count_spanless : (x : Count) → said_count t (N.count x) ≡ said_count t x
  count_spanless Count.Implied = refl
  count_spanless (Count.Fixed n) = refl
  count_spanless (Count.ByName r s) = refl
  count_spanless (Count.ByArgument n) = refl
  count_spanless (Count.ByStar n) = refl

  piece_spanless : (x : Piece) → said_piece t (N.piece x) ≡ said_piece t x
  piece_spanless (Piece.Literal r) = refl
  piece_spanless (Piece.Placeholder a) =
      cc (fill_spanless a.spec.fill, count_spanless a.spec.width, count_spanless a.spec.precision)

  spanless : (xs : List Piece) → said t (N.pieces xs) ≡ said t xs
  spanless [] = refl
  spanless (x ∷ xs) = cc (piece_spanless x, spanless xs)

pub said_any : (m : Mode) (f g : Frame) (t : List ℕ) → said t (pieces t f m) ≡ said t (pieces t g m)
said_any m f g t =
    sym (spanless t (pieces t f m)) ∙ (ap (said t) (pieces_any t f g m) ∙ spanless t (pieces t g m))
