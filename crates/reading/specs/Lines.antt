-- The lines of literal text: a newline in it ends a line, and whitespace at a line's start is cut from it. In Diagnostic mode the text after a
-- colon is literal text too, that of a field met in recovery as well; plain whitespace of a placeholder never is.
use Rattle.std.specs.Prelude.{ℕ, suc, ◌+◌, List, [], ◌∷◌, Bool, eqb}
use Prim.Native.Char.{code}
use Rattle.utf8.specs.Choice.{pick, both}
use Rattle.utf8.specs.Chars.{Ch, chars_of}
use Rattle.letters.specs.Questions.{is_space}
use Rattle.frame.specs.Places.{place, span_of}
use Rattle.frame.specs.Spans.{to_snippet}
use Rattle.frame.specs.declared.TextRange.{TextRange}
use Rattle.frame.specs.declared.SnippetPlace.{SnippetPlace}
use Rattle.frame.specs.declared.Span.{Span}
use Rattle.frame.specs.declared.Frame.{Frame}

-- the characters of a part of the text (R6.10)
unfoldable pub chars_in : List ℕ → TextRange → List Ch
chars_in t r = chars_of t r.start.0 r.end.0

abbrev pub is_newline : Ch → Bool
is_newline c = eqb c.code (code "\n")

-- how many newlines there are
unfoldable pub newlines : List Ch → ℕ
newlines [] = 0
newlines (c ∷ cs) = pick (is_newline c) (suc (newlines cs)) (newlines cs)

-- where a character starts and ends in the snippet
abbrev pub ch_start : Frame → Ch → SnippetPlace
ch_start f c = to_snippet f (place c.at)

abbrev pub ch_end : Frame → Ch → SnippetPlace
ch_end f c = to_snippet f (place (c.at + c.width))

-- whitespace that stands where the line starts moves the start past it (R6.12)
unfoldable pub cut : Frame → SnippetPlace → Ch → SnippetPlace
cut f line c = pick (both (eqb (ch_start f c).0 line.0) (is_space c.code)) (ch_end f c) line

-- the line's start after a character
unfoldable pub line_after : Frame → SnippetPlace → Ch → SnippetPlace
line_after f line c = pick (is_newline c) (ch_end f c) (cut f line c)

-- the lines that end among characters, where the first line starts at a place (R6.11)
unfoldable pub ended_lines : Frame → SnippetPlace → List Ch → List Span
ended_lines f line [] = []
ended_lines f line (c ∷ cs) =
    pick (is_newline c) (span_of line (ch_start f c) ∷ ended_lines f (line_after f line c) cs) (ended_lines f (line_after f line c) cs)

-- where the line after them starts (R6.14)
unfoldable pub line_start : Frame → SnippetPlace → List Ch → SnippetPlace
line_start f line [] = line
line_start f line (c ∷ cs) = line_start f (line_after f line c) cs
