-- The lists at exit. "A refusal changes no list. Done fills the first records of each list; the rest stay."
use Rattle.std.specs.Prelude.{ℕ, ◌≡◌, List, eqb}
use Rattle.utf8.specs.Choice.{pick}
use Rattle.reading.specs.Lists.{pieces, errors, places, lines}
use Rattle.reading.specs.Written.{over, pairs}
use Rattle.reading.specs.declared.Piece.{Piece}
use Rattle.reading.specs.declared.ErrorRecord.{ErrorRecord}
use Rattle.reading.specs.Answers.{frame_for, mode_for}
use Rattle.reading.specs.declared.Request.{Request}

-- what a list holds at exit: the records where the call is done, else what it held (R1.3, R1.4)
unfoldable pub at_exit : {A : Type 0} → ℕ → List A → List A → List A
at_exit number new old = pick (eqb number 0) (over new old) old

-- the four lists at exit, from what they held and the answer's number, refused calls too (R1.3, R1.4)
pub record Filled (t s : List ℕ) (q : Request) (number : ℕ) (ps ps' : List Piece) (es es' : List ErrorRecord) (ls ls' ns ns' : List ℕ) : Type 0 where
  pub pieces : ps' ≡ at_exit number (pieces t (frame_for t s q) (mode_for q)) ps
  pub errors : es' ≡ at_exit number (errors t (frame_for t s q) (mode_for q)) es
  pub places : ls' ≡ at_exit number (pairs (places t (frame_for t s q) (mode_for q))) ls
  pub lines : ns' ≡ at_exit number (pairs (lines t (frame_for t s q) (mode_for q))) ns
