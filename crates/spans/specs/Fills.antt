-- What the functions that write spans come to, part by part. Rests on reading's Lines and Lists.
use Rattle.std.specs.Prelude.{ℕ, ◌+◌, ◌*◌, ◌≡◌, List, [], ◌∷◌, ◌++◌, length, take, drop}
use Rattle.utf8.specs.Choice.{pick}
use Rattle.utf8.specs.Chars.{Ch}
use Rattle.frame.specs.Places.{span_of}
use Rattle.frame.specs.declared.Frame.{Frame}
use Rattle.frame.specs.declared.SnippetPlace.{SnippetPlace}
use Rattle.frame.specs.declared.Span.{Span}
use Rattle.reading.specs.Lines.{chars_in, ended_lines, line_start}
use Rattle.reading.specs.Lists.{gather, texts_of, is_end}
use Rattle.reading.specs.declared.Step.{Step}
use Rattle.reading.specs.Written.{pairs}
use Rattle.spans.specs.declared.LineRun.{LineRun}

-- spans written over a list of numbers, from its n-th pair on
unfoldable pub written : List ℕ → ℕ → List Span → List ℕ
written old n xs = take (2 * n) old ++ (pairs xs ++ drop (2 * (n + length xs)) old)

-- spans are written from the n-th pair on, and r is how many pairs there are then
pub record Put (old : List ℕ) (n : ℕ) (xs : List Span) (new : List ℕ) (r : ℕ) : Type 0 where
  pub count : r ≡ n + length xs
  pub wrote : new ≡ written old n xs

-- the lines that end among characters are written, and the run stands where the next line starts
pub record LinesPut (f : Frame) (run : LineRun) (cs : List Ch) (old new : List ℕ) (r : LineRun) : Type 0 where
  pub line : r.line ≡ line_start f run.line cs
  pub put : Put old run.count (ended_lines f run.line cs) new r.count

-- the literal text that a step passes
abbrev pub step_chars : List ℕ → Step → List Ch
step_chars t x = gather (chars_in t) (texts_of x)

-- "At the end of the text the last line is added"; "a stop at a lone `}` adds none"
abbrev pub last_of : Frame → SnippetPlace → Step → List Span
last_of f line x = pick (is_end x) (span_of line f.end ∷ []) []
