-- Spans of the snippet from byte places of the text. Rests on the frame and on the choice by a test of `utf8`.
use Rattle.std.specs.Prelude.{ℕ, ◌+◌, List, length, ltb}
use Rattle.utf8.specs.Choice.{pick}
use Rattle.frame.specs.declared.TextPlace.{TextPlace}
use Rattle.frame.specs.declared.SnippetPlace.{SnippetPlace}
use Rattle.frame.specs.declared.Span.{Span}
use Rattle.frame.specs.declared.Frame.{Frame}
use Rattle.frame.specs.Places.{snippet, span_of}

-- "A character at byte i of n bytes has span i+q to i+q+n": the only conversion of a text place to a snippet place (R6.1, R6.3)
unfoldable pub to_snippet : Frame → TextPlace → SnippetPlace
to_snippet f at = snippet (at.0 + f.quote)

-- where the character at a text place starts; past the text, "end" (R6.3, R6.6)
unfoldable pub start_of : List ℕ → Frame → TextPlace → SnippetPlace
start_of t f at = pick (ltb at.0 (length t)) (to_snippet f at) f.end

-- from the start of one place to the start of another; it may come out reversed (R6.6, R6.7)
unfoldable pub span_between : List ℕ → Frame → TextPlace → TextPlace → Span
span_between t f from to = span_of (start_of t f from) (start_of t f to)
