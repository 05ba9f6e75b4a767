-- Spans within a text: a place before the end starts in the snippet at its byte and the quote offset. Rests on the spans of grammar's Pieces.
use Rattle.std.specs.Prelude.{◌≡◌, List, ℕ, ◌+◌, ◌≤◌, ◌<◌, length, Some}
use Rattle.std.proofs.Common.{arith, lt-ltb}
use Rattle.utf8.specs.Choice.{pick}
use Rattle.utf8.specs.CharLaws.{seen_in}
use Rattle.utf8.specs.Utf8.{peek_at, char}
use Rattle.frame.specs.Places.{snippet}
use Rattle.frame.specs.Spans.{to_snippet, start_of, span_between}
use Rattle.frame.specs.declared.TextPlace.{TextPlace}
use Rattle.frame.specs.declared.Frame.{Frame}
use Rattle.scan.specs.Ends.{end_of, span_across}
use Rattle.grammar.specs.Pieces.{spanned, present}

module _ (t : List ℕ) (f : Frame) where
  start_in : (at : TextPlace) → at.0 < length t → start_of t f at ≡ snippet (at.0 + f.quote)
  unfolding start_of to_snippet pick
  start_in at h = rw (lt-ltb at.0 (length t) h)

  -- from the start of one place to the start of another
  pub between : (a b : TextPlace) → a.0 ≤ b.0 → b.0 < length t → span_between t f a b ≡ spanned f.quote a.0 b.0
  unfolding span_between
  between a b l h = rw (start_in a (omega arith), start_in b h)

  pub between_present : (a b : TextPlace) (j : ℕ) → b.0 ≡ j → a.0 ≤ b.0 → b.0 < length t →
      Some (span_between t f a b) ≡ present f.quote a.0 j
  between_present a b j e l h = rw (between a b l h, e)

  -- from the start of one character to the end of another
  pub across : (a b : TextPlace) {c w : ℕ} → a.0 ≤ b.0 → peek_at t b.0 ≡ Some (char c w) → span_across t f a b ≡ spanned f.quote a.0 (b.0 + w)
  unfolding span_across end_of to_snippet
  across a b l e = let i = seen_in t b.0 e in rw (start_in a (omega arith), e)
