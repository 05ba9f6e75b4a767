-- What is told as a step: its piece and its records. Rests on wrongs' ToldWrong, quick's Tellings and writing's Noting.
use Prim.Native.Nat.{ℕ, ◌+◌, ◌*◌}
use mathlib.Core.Path.{◌≡◌, sym, ap, ◌∙◌}
use mathlib.Core.List.{List}
use Rattle.frame.specs.declared.Frame.{Frame}
use Rattle.reading.specs.Faults.{step_slots}
use Rattle.laws.specs.ListLaws.{gather_one}
use Rattle.reading.specs.declared.Piece.{Piece}
use Rattle.reading.specs.declared.Step.{Step}
use Rattle.quick.specs.Tellings.{argument_of, told_read}
use Rattle.quick.specs.declared.PlaceholderTold.{PlaceholderTold}
use Rattle.words.specs.Laid.{laid}
use Rattle.words.specs.Layout.{argument_words, piece_words}
use Rattle.writing.specs.StepsWritten.{noted_by, notes, noticed, Room, Notes, one_more, StepRoom, Stepped}
use Rattle.writing.specs.declared.Extent.{Extent}
use Rattle.writing.proofs.Noting.{noticed_same}
use Rattle.wrongs.specs.Wrongs.{told_slots}
use Rattle.wrongs.proofs.ToldWrong.{told_wrong}

module _ (t : List ℕ) (f : Frame) where
  -- one that is told gives a piece and the records of what is told to be wrong
  module _ (brace n : ℕ) (x : PlaceholderTold) where
    -- the step's findings are those of what is told
    told_found : (k : ℕ) → noticed k (step_slots (Step.Placeholder (told_read t f brace n x))) ≡ noticed k (told_slots t brace x)
    told_found k = noticed_same k (step_slots (Step.Placeholder (told_read t f brace n x))) (told_slots t brace x) (told_wrong t f brace n x)

  module _ {m : Extent} {ps es : List ℕ} (brace n : ℕ) (x : PlaceholderTold) where
    pub told_room : StepRoom (Step.Placeholder (told_read t f brace n x)) m ps es → Room (noted_by m es) (noticed m.pieces (told_slots t brace x))
    told_room r = rw (told_found brace n x m.pieces) at r.errors

    pub stepped_told : {ps' : List ℕ} → ps' ≡ laid ps (40 * m.pieces) (argument_words (argument_of t f brace n x)) → {o : Extent} {es' : List ℕ} →
        Notes t f m es (told_slots t brace x) o es' → {r : Extent} → r ≡ one_more o →
        Stepped t f (Step.Placeholder (told_read t f brace n x)) m ps es r ps' es'
    unfolding told_read
    stepped_told w {es' = es'} k e =
        record {
          pieces = ap (λ (o : Extent). o.pieces) e ∙ ap (λ (p : ℕ). p + 1) k.pieces;
          wrote = w ∙ ap (laid ps (40 * m.pieces)) (sym (gather_one piece_words (Piece.Placeholder (argument_of t f brace n x))));
          noted = ap (λ (o : Extent). noted_by o es') e ∙ k.noted ∙ sym (ap (notes t f (noted_by m es)) (told_found brace n x m.pieces));
        }
