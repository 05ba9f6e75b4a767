-- What a decision says of the lists: where it is 0 each has room for its records, and a call is what its lists then hold. Facts about lists alone.
use mathlib.Core.Path.{◌≡◌, refl, sym, ap, subst, ◌∙◌}
use mathlib.Core.Bool.{Bool, true, false, not}
use mathlib.Core.List.{List}
use Prim.Native.Nat.{ℕ, ◌*◌, ◌/◌, ◌≤◌}
use native.Mathlib.Omega.{arith}
use lib.Dec.{eqb}
use lib.ListN.{length}
use borrow.Author.Tests.{eqb-true, not-false, eq-eqb, ne_eqb}
use Rattle.std.specs.Prelude.{Some, None}
use Rattle.utf8.specs.Chars.{chars_from}
use Rattle.utf8.specs.Choice.{pick}
use Rattle.frame.specs.Bounds.{Small}
use Rattle.frame.specs.declared.Frame.{Frame}
use Rattle.frame.specs.declared.Mode.{Mode}
use Rattle.reading.specs.Lists.{pieces, errors, places, lines, counts_of}
use Rattle.reading.specs.declared.Counts.{Counts}
use Rattle.reading.specs.declared.Piece.{Piece}
use Rattle.reading.specs.declared.ErrorRecord.{ErrorRecord}
use Rattle.reading.specs.Answers.{frame_for, mode_for}
use Rattle.answer.specs.Asking.{asked_answer, DecidedBy}
use Rattle.answer.specs.Decisions.{Admitted}
use Rattle.laws.specs.AnswerLaws.{Done}
use Rattle.answer.specs.AskedLaws.{asked_counts, asked_done}
use Rattle.reading.specs.Written.{over, pairs}
use Rattle.reading.specs.Exits.{at_exit}
use Rattle.answer.specs.declared.Asked.{Asked}
use Rattle.reading.specs.declared.Rooms.{Rooms}
use Rattle.answer.specs.declared.Decision.{Decision}
use Rattle.answer.specs.declared.Readable.{Readable}
use Rattle.reading.specs.Calls.{rooms_of}
use Rattle.reader.specs.Reads.{ReadBy}
use Rattle.reader.proofs.Filling.{over_empty}

-- a list at exit, where the number is 0 and where it is not
at_done : {A : Type 0} (n : ℕ) (new old : List A) → eqb n 0 ≡ true → at_exit n new old ≡ over new old
unfolding at_exit pick
at_done n new old z = ap (λ (b : Bool). pick b (over new old) old) z

at_refused : {A : Type 0} (n : ℕ) (new old : List A) → eqb n 0 ≡ false → at_exit n new old ≡ old
unfolding at_exit pick
at_refused n new old z = ap (λ (b : Bool). pick b (over new old) old) z

module _ (ps : List Piece) (es : List ErrorRecord) (ls ns : List ℕ) where
  -- how many records the lists have room for, as the call counts them
  abbrev pub rooms : Rooms
  rooms = record { pieces = length ps; errors = length es; places = length ls / 2; lines = length ns / 2 }

  rooms_are : rooms ≡ rooms_of ps es ls ns
  unfolding rooms_of
  rooms_are = refl

  -- each list has room for what a frame and a mode give
  pub record Ready (t : List ℕ) (f : Frame) (m : Mode) : Type 0 where
    pub small : Small t f
    pub pieces : length (pieces t f m) ≤ length ps
    pub errors : length (errors t f m) ≤ length es
    pub places : 2 * length (places t f m) ≤ length ls
    pub lines : 2 * length (lines t f m) ≤ length ns

  module _ (t s : List ℕ) (q : Asked) (d : Decision) (decided : DecidedBy t s q rooms d) where
    -- the lists where the call is refused: as they were
    pub refused : d.done ≡ None → ReadBy t s q ps ps es es ls ls ns ns d.answer
    refused none = record {
      answer = decided.answer ∙ ap (asked_answer q t s) rooms_are;
      lists = record {
        pieces = sym (at_refused d.answer.number (pieces t (frame_for t s q.request) (mode_for q.request)) ps other);
        errors = sym (at_refused d.answer.number (errors t (frame_for t s q.request) (mode_for q.request)) es other);
        places = sym (at_refused d.answer.number (pairs (places t (frame_for t s q.request) (mode_for q.request))) ls other);
        lines = sym (at_refused d.answer.number (pairs (lines t (frame_for t s q.request) (mode_for q.request))) ns other);
      };
    }
      where
        other : eqb d.answer.number 0 ≡ false
        other = ne_eqb d.answer.number 0 (rw none at decided.done)

    module _ {x : Readable} (is_done : d.done ≡ Some x) where
      its : (d.answer.number ≡ 0) × Admitted t (length (chars_from t 0)) s q.request x
      its = rw is_done at decided.done

      is_zero : d.answer.number ≡ 0
      is_zero = its.0

      zero : eqb d.answer.number 0 ≡ true
      zero = eq-eqb d.answer.number 0 is_zero

      framed : x.frame ≡ frame_for t s q.request
      framed = its.1.frame

      moded : x.mode ≡ mode_for q.request
      moded = its.1.mode

      at_decision : (P : Frame → Mode → Type 0) → P (frame_for t s q.request) (mode_for q.request) → P x.frame x.mode
      at_decision P p = subst (λ (f : Frame). P f x.mode) (sym framed) (subst (P (frame_for t s q.request)) (sym moded) p)

      pub ready : Ready t x.frame x.mode
      ready = at_decision (Ready t) (record {
        small = done.small;
        pieces = done.pieces;
        errors = done.errors;
        places = omega (arith, done.places);
        lines = omega (arith, done.lines);
      })
        where
          done : Done t s q.request rooms
          done = asked_done t s q rooms decided is_zero

      -- the list of errors where their count is 0: as it was, which is no record over the first
      pub clean : not (eqb d.answer.counts.errors 0) ≡ false → es ≡ over (errors t x.frame x.mode) es
      unfolding counts_of
      clean none = at_decision (λ f m. es ≡ over (errors t f m) es) (over_empty (errors t (frame_for t s q.request) (mode_for q.request)) es (sym counted ∙ eqb-true d.answer.counts.errors 0 (not-false (eqb d.answer.counts.errors 0) none)))
        where
          counted : d.answer.counts.errors ≡ length (errors t (frame_for t s q.request) (mode_for q.request))
          counted = ap (λ (c : Counts). c.errors) (asked_counts t s q rooms decided is_zero)

      -- the lists where the call is done: the records over the first
      pub finished : (ps' : List Piece) (es' : List ErrorRecord) (ls' ns' : List ℕ) → ps' ≡ over (pieces t x.frame x.mode) ps → es' ≡ over (errors t x.frame x.mode) es
          → ls' ≡ over (pairs (places t x.frame x.mode)) ls → ns' ≡ over (pairs (lines t x.frame x.mode)) ns → ReadBy t s q ps ps' es es' ls ls' ns ns' d.answer
      finished ps' es' ls' ns' p e l n = record {
        answer = decided.answer ∙ ap (asked_answer q t s) rooms_are;
        lists = record {
          pieces = p ∙ the (λ f m. pieces t f m) (λ y. over y ps) ∙ sym (at_done d.answer.number (pieces t (frame_for t s q.request) (mode_for q.request)) ps zero);
          errors = e ∙ the (λ f m. errors t f m) (λ y. over y es) ∙ sym (at_done d.answer.number (errors t (frame_for t s q.request) (mode_for q.request)) es zero);
          places = l ∙ the (λ f m. places t f m) (λ y. over (pairs y) ls) ∙ sym (at_done d.answer.number (pairs (places t (frame_for t s q.request) (mode_for q.request))) ls zero);
          lines = n ∙ the (λ f m. lines t f m) (λ y. over (pairs y) ns) ∙ sym (at_done d.answer.number (pairs (lines t (frame_for t s q.request) (mode_for q.request))) ns zero);
        };
      }
        where
          the : {X Y : Type 0} (g : Frame → Mode → X) (k : X → Y) → k (g x.frame x.mode) ≡ k (g (frame_for t s q.request) (mode_for q.request))
          the g k = ap (λ (f : Frame). k (g f x.mode)) framed ∙ ap (λ (m : Mode). k (g (frame_for t s q.request) m)) moded
