-- Where a character ends in the snippet. "A character at byte i of n bytes has span i+q to i+q+n"; past the text stands "end".
use Rattle.std.specs.Prelude.{ℕ, ◌+◌, List, Option, Some, None}
use Rattle.utf8.specs.Utf8.{peek_at}
use Rattle.frame.specs.Places.{place, span_of}
use Rattle.frame.specs.Spans.{to_snippet, start_of}
use Rattle.frame.specs.declared.TextPlace.{TextPlace}
use Rattle.frame.specs.declared.SnippetPlace.{SnippetPlace}
use Rattle.frame.specs.declared.Span.{Span}
use Rattle.frame.specs.declared.Frame.{Frame}
use Rattle.utf8.specs.declared.Char.{Char}

-- where what is seen at a place ends
abbrev pub end_seen : Frame → TextPlace → Option Char → SnippetPlace
end_seen f at None = f.end
end_seen f at (Some seen) = to_snippet f (place (at.0 + seen.width))

-- where the character at a place ends (R6.3)
unfoldable pub end_of : List ℕ → Frame → TextPlace → SnippetPlace
end_of t f at = end_seen f at (peek_at t at.0)

-- from the start of one character to the end of another (R6.3, R6.6)
unfoldable pub span_across : List ℕ → Frame → TextPlace → TextPlace → Span
span_across t f a b = span_of (start_of t f a) (end_of t f b)
