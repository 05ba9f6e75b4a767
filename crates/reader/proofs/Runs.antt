-- Where a run over a text stands: the records so far, and what is left to come at a cursor. Together they are the whole list, a turn at a time.
-- Rests on what a turn says (turns' Turns and TurnLaws), and on the laws of a list filled from the front.
use Rattle.std.specs.Prelude.{Option, None, Some}
use mathlib.Core.Path.{◌≡◌, refl, sym, ap, ◌∙◌}
use mathlib.Core.List.{List, [], ◌∷◌, ◌++◌, append-nil}
use Prim.Native.Nat.{ℕ, ◌+◌, ◌<◌, ◌≤◌}
use native.Mathlib.Omega.{arith}
use lib.ListN.{length, length-append}
use lib.Seq.{append_snoc}
use Rattle.frame.specs.declared.Frame.{Frame}
use Rattle.frame.specs.declared.Mode.{Mode}
use Rattle.reading.specs.Lists.{pieces, errors}
use Rattle.reading.specs.declared.Piece.{Piece}
use Rattle.reading.specs.declared.ErrorRecord.{ErrorRecord}
use Rattle.turns.specs.declared.Cursor.{Cursor}
use Rattle.turns.specs.declared.PieceTurn.{PieceTurn}
use Rattle.turns.specs.declared.FaultTurn.{FaultTurn}
use Rattle.reading.specs.Written.{over}
use Rattle.turns.specs.Turns.{Fresh, first_cursor, pieces_at, PieceNext, note, Note, notes, faults_at, FaultNext, posted}
use Rattle.turns.specs.TurnLaws.{first_pieces, first_faults, posted_length, posted_errors}
use Rattle.reader.specs.Lent.{FilledBy}
use Rattle.reader.proofs.Filling.{with_one}

-- A course of turns: a turn has a note, and the next is asked from its key on. Notes are posted to the records so far, one at a time.
pub record Course (X : Type 0) {Turn Key : Type 0} (from : Turn → Key) (first : Key) : Type 1 where
  pub Note : Type 0
  pub all : List X
  pub note : Turn → Note
  pub at : Key → List Note
  pub post : List X → List Note → List X
  pub one : List X → Note → List X
  pub post_none : (es : List X) → post es [] ≡ es
  pub post_one : (es : List X) (n : Note) (ns : List Note) → post es (n ∷ ns) ≡ post (one es n) ns
  pub post_length : (es : List X) (ns : List Note) → length (post es ns) ≡ length es + length ns
  pub starts : post [] (at first) ≡ all
  pub Next : Key → Option Turn → Type 0
  pub last : (k : Key) → Next k None → at k ≡ []
  pub says : (k : Key) (r : Turn) → Next k (Some r) → at k ≡ note r ∷ at (from r)
  pub Asked : Key → Type 0
  pub asked : (k : Key) (r : Turn) → Next k (Some r) → Asked (from r)

module _ {X Turn Key : Type 0} {from : Turn → Key} {first : Key} (c : Course X from first) where
  pub record Run (es : List X) (k : Key) : Type 0 where
    pub whole : c.all ≡ c.post es (c.at k)
    pub fresh : c.Asked k

  pub begun : c.Asked first → Run [] first
  begun h = record { whole = sym c.starts; fresh = h }

  -- one record is one more
  pub one_length : (es : List X) (n : c.Note) → length (c.one es n) ≡ length es + 1
  one_length es n = ap length (sym (c.post_one es n [] ∙ c.post_none (c.one es n))) ∙ c.post_length es (n ∷ [])

  module _ {es : List X} {k : Key} (x : Run es k) where
    pub ended : c.Next k None → (ys : List X) → FilledBy c.all ys (over es ys) (length es)
    ended none ys = record { count = ap length (sym is); list = ap (λ l. over l ys) (sym is) }
      where
        is : c.all ≡ es
        is = x.whole ∙ ap (c.post es) (c.last k none) ∙ c.post_none es

    pub few : length es ≤ length c.all
    few = omega (arith, ap length x.whole, c.post_length es (c.at k))

    module _ (r : Turn) (next : c.Next k (Some r)) where
      pub room : length es < length c.all
      room = omega (arith, ap length x.whole, c.post_length es (c.at k), ap length (c.says k r next))

      pub goes_on : Run (c.one es (c.note r)) (from r)
      goes_on = record { whole = x.whole ∙ ap (c.post es) (c.says k r next) ∙ c.post_one es (c.note r) (c.at (from r)); fresh = c.asked k r next }

      pub fewer : length (c.at (from r)) < length (c.at k)
      fewer = omega (arith, ap length (c.says k r next))

-- PIECES: those so far, then the turn's
abbrev pub piece_course : (t : List ℕ) → Frame → Mode → Course Piece {Turn = PieceTurn} (λ r. r.cursor) (first_cursor t)
piece_course t f m = record {
  Note = Piece;
  all = pieces t f m;
  note = λ r. r.piece;
  at = pieces_at t f m;
  post = λ es ps. es ++ ps;
  one = λ es p. es ++ (p ∷ []);
  post_none = append-nil;
  post_one = λ es p ps. sym (append_snoc es p ps);
  post_length = length-append;
  starts = first_pieces t f m;
  Next = PieceNext t f m;
  last = λ c next. sym next.says;
  says = λ c r next. sym next.says;
  Asked = Fresh;
  asked = λ c r next. next.fresh;
}

-- ERRORS: a turn's record is put in front of those so far, or added at the back. The next is asked from a slot of the step at a cursor on
abbrev pub Slot : Type 0
Slot = Cursor × ℕ

pub posted_none : (es : List ErrorRecord) → posted es [] ≡ es
unfolding posted
posted_none es = refl

pub posted_one : (es : List ErrorRecord) (n : Note) (ns : List Note) → posted es (n ∷ ns) ≡ posted (with_one n.front es n.entry) ns
unfolding posted
posted_one es n ns = refl

abbrev pub fault_course : (t : List ℕ) → Frame → Mode → Course ErrorRecord {Turn = FaultTurn} {Key = Slot} (λ r. (r.cursor, r.slot)) (first_cursor t, 0)
fault_course t f m = record {
  Note = Note;
  all = errors t f m;
  note = λ r. note r.front r.record;
  at = λ k. notes t f (faults_at t f m k.0 k.1);
  post = posted;
  one = λ es n. with_one n.front es n.entry;
  post_none = posted_none;
  post_one = posted_one;
  post_length = posted_length;
  starts = ap (λ l. posted [] (notes t f l)) (first_faults t f m) ∙ posted_errors t f m;
  Next = λ k r. FaultNext t f m k.0 k.1 r;
  last = λ k next. sym next.says;
  says = λ k r next. sym next.says;
  Asked = λ k. Fresh k.0 × (k.1 ≤ 13);
  asked = λ k r next. (next.fresh, next.slots);
}
