-- WHAT A CALLER READS BACK from the numbers of a reading: each piece and each error record, and the whole lists.
-- BackLaws reads a record back that fits, ReadingLaws says that those of a reading fit; DoneCall says that the frame of a done call is in bounds.
use Rattle.std.specs.Prelude.{ℕ, ◌-◌, ◌≡◌}
use Rattle.std.proofs.Math.Path.{refl}
use Rattle.std.proofs.Common.{ap₂}
use mathlib.Core.List.{List, ◌∷◌, ◌++◌, append_assoc}
use Rattle.std.proofs.Math.ListN.{length}
use Rattle.std.proofs.Math.Seq.{take_at, drop_at}
use Rattle.frame.specs.Bounds.{Small}
use Rattle.frame.specs.declared.Frame.{Frame}
use Rattle.frame.specs.declared.Mode.{Mode}
use Rattle.reading.specs.Lists.{gather, pieces, errors}
use Rattle.reading.specs.declared.ErrorRecord.{ErrorRecord}
use Rattle.reading.specs.declared.Piece.{Piece}
use Rattle.words.specs.Layout.{piece_words, error_words}
use Rattle.words.specs.LaidLaws.{piece_words_length, error_words_length}
use Rattle.back.specs.Back.{piece_from, error_from, list_from, Below, All}
use Rattle.back.proofs.BackLaws.{piece_back, error_back}
use Rattle.back.specs.ReadingLaws.{pieces_fit, errors_fit}

-- what follows for each of a list from what holds of it
all_map : {A : Type 0} {P Q : A → Type 0} → ((x : A) → P x → Q x) → {xs : List A} → All P xs → All Q xs
all_map g All.none = All.none
all_map g (All.more {x = x} h r) = All.more (g x h) (all_map g r)

module _ {A : Type 0} (size : ℕ) (from : List ℕ → A) (words : A → List ℕ) (sized : (x : A) → length (words x) ≡ size) where
  -- A LIST of records that are each read back is read back, whatever follows its numbers
  list_back : {xs : List A} → All (λ x. from (words x) ≡ x) xs → (rest : List ℕ) → list_from size from (length xs) (gather words xs ++ rest) ≡ xs
  unfolding list_from gather
  list_back All.none rest = refl
  list_back (All.more {x = x} {xs = xs} h r) rest =
      rw (append_assoc, take_at (words x) (gather words xs ++ rest) size (sized x), drop_at (words x) (gather words xs ++ rest) size (sized x))
      (ap₂ ◌∷◌ h (list_back r rest))

-- A DONE CALL: each of its pieces and error records is what is read back from its numbers, and so are the lists of them
pub record CallBack (ps : List Piece) (es : List ErrorRecord) : Type 0 where
  pub each_piece : All (λ (p : Piece). piece_from (piece_words p) ≡ p) ps
  pub each_error : All (λ (e : ErrorRecord). error_from (error_words e) ≡ e) es
  -- from the numbers of all, 40 a piece and 16 an error record, and whatever follows them
  pub pieces : (rest : List ℕ) → list_from 40 piece_from (length ps) (gather piece_words ps ++ rest) ≡ ps
  pub errors : (rest : List ℕ) → list_from 16 error_from (length es) (gather error_words es ++ rest) ≡ es

-- any reading whose text and frame are in bounds
pub reading_back : (t : List ℕ) (f : Frame) (m : Mode) → Small t f → Below f.end.0 → CallBack (pieces t f m) (errors t f m)
reading_back t f m small end =
    let ps = all_map piece_back (pieces_fit t f small end m) in
    let es = all_map error_back (errors_fit t f small end m) in
    record {
      each_piece = ps;
      each_error = es;
      pieces = list_back 40 piece_from piece_words piece_words_length ps;
      errors = list_back 16 error_from error_words error_words_length es;
    }
