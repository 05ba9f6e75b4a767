-- The run over a text's pieces: what is left of the plain form is that of the pieces from the cursor on. Rests on turns and pen's laws.
use Rattle.std.specs.Prelude.{ℕ, ◌+◌, ◌<◌, ◌≡◌, length, Some, None}
use Rattle.std.proofs.Math.Path.{refl}
use Rattle.std.proofs.Common.{ap, sym, subst, ◌∙◌, arith, length-append}
use mathlib.Core.List.{List, [], ◌∷◌, ◌++◌}
use Rattle.frame.specs.declared.Frame.{Frame}
use Rattle.frame.specs.declared.Mode.{Mode}
use Rattle.reading.specs.Lists.{gather, pieces}
use Rattle.reading.specs.declared.Piece.{Piece}
use Rattle.turns.specs.Turns.{Fresh, first_cursor, pieces_at, PieceNext}
use Rattle.turns.specs.TurnLaws.{first_pieces}
use Rattle.turns.specs.declared.Cursor.{Cursor}
use Rattle.turns.specs.declared.PieceTurn.{PieceTurn}
use Rattle.pen.specs.Pens.{Fits, Laid}
use Rattle.pen.specs.PenLaws.{Left, left_first, left_last}
use Rattle.pen.proofs.Laying.{left_on, left_length}
use Rattle.plain.specs.Said.{said_piece, said}
use Rattle.plain.specs.Plain.{plain_piece, plain_form}
use Rattle.scribe.specs.Scribes.{InkedPiece, AllInked}

module _ (t : List ℕ) (f : Frame) (m : Mode) where
  -- the plain form of pieces
  abbrev pub form_of : List Piece → List ℕ
  form_of xs = plain_form (said t xs)

  form_more : (x : Piece) (xs : List Piece) → form_of (x ∷ xs) ≡ plain_piece (said_piece t x) ++ form_of xs
  unfolding plain_form gather
  form_more x xs = refl

  form_none : form_of [] ≡ []
  unfolding plain_form gather
  form_none = refl

  -- where the run stands
  pub record Going (old out : List ℕ) (c : Cursor) (k : ℕ) : Type 0 where
    pub left : Left old 0 (form_of (pieces t f m)) out k (form_of (pieces_at t f m c))
    pub inked : AllInked (pieces_at t f m c)
    pub fresh : Fresh c

  pub going_first : (old : List ℕ) → Fresh (first_cursor t) → AllInked (pieces t f m) → Going old old (first_cursor t) 0
  going_first old h a =
      let e : pieces_at t f m (first_cursor t) ≡ pieces t f m = first_pieces t f m in
      record {
        left = subst (λ xs. Left old 0 (form_of (pieces t f m)) old 0 (form_of xs)) (sym e) (left_first old 0 (form_of (pieces t f m)));
        inked = subst AllInked (sym e) a;
        fresh = h;
      }

  module _ {old out : List ℕ} {c : Cursor} {k : ℕ} (g : Going old out c k) where
    -- a piece is there
    module _ {turn : PieceTurn} (next : PieceNext t f m c (Some turn)) where
      turn_some : pieces_at t f m c ≡ turn.piece ∷ pieces_at t f m turn.cursor
      turn_some = sym next.says

      form_some : form_of (pieces_at t f m c) ≡ plain_piece (said_piece t turn.piece) ++ form_of (pieces_at t f m turn.cursor)
      form_some = ap form_of turn_some ∙ form_more turn.piece (pieces_at t f m turn.cursor)

      pub piece_asked : Fits 1 (form_of (pieces t f m)) → Fits (k + 1) (plain_piece (said_piece t turn.piece)) × InkedPiece turn.piece
      piece_asked r = (
        omega (arith, r, g.left.place, ap length form_some, length-append (plain_piece (said_piece t turn.piece)) (form_of (pieces_at t f m turn.cursor))),
        (subst AllInked turn_some g.inked).0,
      )

      pub going_on : {out' : List ℕ} {k' : ℕ} → Laid out k (plain_piece (said_piece t turn.piece)) k' out' → Going old out' turn.cursor k'
      going_on p =
          record {
            left = left_on (plain_piece (said_piece t turn.piece)) (form_of (pieces_at t f m turn.cursor)) g.left form_some p;
            inked = (subst AllInked turn_some g.inked).1;
            fresh = next.fresh;
          }

      -- fewer are left
      pub going_less : length (pieces_at t f m turn.cursor) < length (pieces_at t f m c)
      going_less = omega (arith, ap length turn_some)

    -- none is
    pub going_last : PieceNext t f m c None → Laid old 0 (form_of (pieces t f m)) k out
    going_last next = left_last g.left (ap form_of (sym next.says) ∙ form_none)

    pub going_length : length out ≡ length old
    going_length = left_length g.left
