-- Accepted texts, what a text's pieces say and its plain form: the words of plain's page (proofs/PlainlyLaws). What pieces say is Said, the plain form Plain.
use Rattle.std.specs.Prelude.{◌≡◌, List, [], ℕ}
use Rattle.utf8.specs.Table37.{WellFormed}
use Rattle.frame.specs.declared.Frame.{Frame}
use Rattle.frame.specs.declared.Mode.{Mode}
use Rattle.reading.specs.Lists.{pieces, errors}
use Rattle.plain.specs.Said.{SaidPiece, said}
use Rattle.plain.specs.Plain.{plain_form}

-- AN ACCEPTED TEXT: it is UTF-8 as table 3-7 of the Unicode Standard has it, and no error is recorded
pub record Accepted (m : Mode) (f : Frame) (t : List ℕ) : Type 0 where
  pub is_utf8 : WellFormed t
  pub no_error : errors t f m ≡ []

-- what its pieces say, and its plain form
abbrev pub sayings : Mode → Frame → List ℕ → List SaidPiece
sayings m f t = said t (pieces t f m)

abbrev pub plain_of : Mode → Frame → List ℕ → List ℕ
plain_of m f t = plain_form (sayings m f t)
