-- Places, ranges and spans made of numbers and places. Rests on the declared types alone.
use Rattle.std.specs.Prelude.{ℕ}
use Rattle.frame.specs.declared.TextPlace.{TextPlace}
use Rattle.frame.specs.declared.SnippetPlace.{SnippetPlace}
use Rattle.frame.specs.declared.TextRange.{TextRange}
use Rattle.frame.specs.declared.Span.{Span}

-- the byte place i of the text
abbrev pub place : ℕ → TextPlace
place i = record { 0 = i }

-- the place i of the snippet
abbrev pub snippet : ℕ → SnippetPlace
snippet i = record { 0 = i }

-- the bytes of the text from one place to another
abbrev pub range_of : TextPlace → TextPlace → TextRange
range_of from to = record { start = from; end = to }

-- the part of the snippet from one place to another
abbrev pub span_of : SnippetPlace → SnippetPlace → Span
span_of from to = record { start = from; end = to }
