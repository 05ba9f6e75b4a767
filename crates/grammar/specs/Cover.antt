-- The cover of a text's bytes by pieces, with errors or without: literal views, dropped first braces and argument ranges lie end to end up to
-- the stopping place. Rests on Grammar's braces and on the records that the reader declares; no reader is named here.
use Rattle.std.specs.Prelude.{◌≡◌, ◌≢◌, ◌⊎◌, ◌↔◌, List, [], ◌∷◌, ℕ, ◌+◌, ◌<◌, length, get_or}
use Prim.Native.Char.{code}
use Rattle.reading.specs.declared.Piece.{Piece}
use Rattle.reading.specs.declared.ErrorRecord.{ErrorRecord}
use Rattle.grammar.specs.Grammar.{Brace, Plain}

-- the byte at place i of a text
abbrev pub byte_at : List ℕ → ℕ → ℕ
byte_at t i = get_or t i 0

-- a brace stands at byte p, and the same brace after it
abbrev pub Doubled : List ℕ → ℕ → Type 0
Doubled t p = Brace (byte_at t p) × (byte_at t (p + 1) ≡ byte_at t p)

-- a literal view from byte a on, where the bytes before p are covered: it starts there, at no brace, or one first brace is dropped
abbrev pub Begins : List ℕ → ℕ → ℕ → Type 0
Begins t p a = ((a ≡ p) × Plain (byte_at t p)) ⊎ ((a ≡ p + 1) × Doubled t p)

-- such a view up to byte b: it is not empty, has no brace after its first byte, and "goes to the next brace or the end"
pub record View (t : List ℕ) (p a b : ℕ) : Type 0 where
  pub begins : Begins t p a
  pub some : a < b
  pub plain : (i : ℕ) → a < i → i < b → Plain (byte_at t i)
  pub ends : (b ≡ length t) ⊎ Brace (byte_at t b)

-- an argument's range from byte a to byte b: it starts there, at a `{`, and is not empty
pub record Held (t : List ℕ) (p a b : ℕ) : Type 0 where
  pub begins : a ≡ p
  pub brace : byte_at t p ≡ code "{"
  pub some : p < b

-- pieces cover the bytes from p to q, each once and in order
abbrev pub Tiles : List ℕ → ℕ → List Piece → ℕ → Type 0
Tiles t p [] q = p ≡ q
Tiles t p (Piece.Literal r ∷ xs) q = View t p r.start.0 r.end.0 × Tiles t r.end.0 xs q
Tiles t p (Piece.Placeholder y ∷ xs) q = Held t p y.range.start.0 y.range.end.0 × Tiles t y.range.end.0 xs q

-- a `}` stands at byte p, and no `}` after it
abbrev pub Lone : List ℕ → ℕ → Type 0
Lone t p = (byte_at t p ≡ code "}") × (byte_at t (p + 1) ≢ code "}")

-- an error of a kind is recorded
abbrev pub Recorded : ℕ → List ErrorRecord → Type 0
Recorded k [] = ⊥
Recorded k (x ∷ xs) = (x.kind ≡ k) ⊎ Recorded k xs

-- "literal views, dropped first braces and argument ranges cover each byte before the stopping place once, in order."
-- "The reader stops at the end or at a lone `}`": wherever the cover ends, and kind 1 is recorded exactly where that is a lone `}`. (R5.16)
pub record Covered (t : List ℕ) (ps : List Piece) (es : List ErrorRecord) : Type 0 where
  pub stop : ℕ
  pub tiles : Tiles t 0 ps stop
  pub stops : (stop ≡ length t) ⊎ Lone t stop
  pub told : Recorded 1 es ↔ Lone t stop
