-- What one step adds to each count, for the run that counts. Rests on reading's Lists and Lines.
use Rattle.std.specs.Prelude.{ℕ, ◌+◌, ◌≤◌, List, length}
use Rattle.utf8.specs.Choice.{pick}
use Rattle.frame.specs.declared.Frame.{Frame}
use Rattle.closing.specs.declared.whole.Closing.{Closing}
use Rattle.reading.specs.Faults.{faults_of}
use Rattle.reading.specs.Lines.{chars_in, newlines}
use Rattle.reading.specs.Lists.{pieces_of}
use Rattle.reading.specs.declared.Step.{Step}
use Rattle.reading.specs.declared.Counts.{Counts}

-- what one step adds to each
abbrev pub piece_count : Step → ℕ
piece_count s = length (pieces_of s)

abbrev pub closed_count : Closing → ℕ
closed_count (Closing.Closed p) = 1
closed_count (Closing.Missing gap on) = 0

abbrev pub place_count : Step → ℕ
place_count Step.End = 0
place_count (Step.Stop p) = 0
place_count (Step.Literal r) = 0
place_count (Step.Placeholder p) = closed_count p.closing

abbrev pub closing_lines : List ℕ → Closing → ℕ
closing_lines t (Closing.Closed p) = 0
closing_lines t (Closing.Missing gap on) = newlines (chars_in t on.text)

abbrev pub line_count : List ℕ → Step → ℕ
line_count t Step.End = 1
line_count t (Step.Stop p) = 0
line_count t (Step.Literal r) = newlines (chars_in t r)
line_count t (Step.Placeholder p) = newlines (chars_in t p.text) + closing_lines t p.closing

unfoldable pub step_counts : List ℕ → Frame → Step → Counts
step_counts t f s =
    record {
      pieces = piece_count s;
      errors = length (faults_of s);
      places = pick f.literal (place_count s) 0;
      lines = pick f.literal (line_count t s) 0;
    }

abbrev pub sum : Counts → Counts → Counts
sum a b =
    record {
      pieces = a.pieces + b.pieces;
      errors = a.errors + b.errors;
      places = a.places + b.places;
      lines = a.lines + b.lines;
    }

-- no count passes a number
pub record Countable (most : ℕ) (c : Counts) : Type 0 where
  pub pieces : c.pieces ≤ most
  pub errors : c.errors ≤ most
  pub places : c.places ≤ most
  pub lines : c.lines ≤ most
