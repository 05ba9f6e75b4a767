-- A text as a list of characters, for any bytes, those between two places, and a run of characters that pass a test. Rests on Choice
-- and Utf8.
use Rattle.std.specs.Prelude.{ℕ, zero, suc, pred, ◌+◌, Bool, ◌≡◌, List, [], ◌∷◌, ltb, drop, length, Option, Some, None}
use Rattle.utf8.specs.Choice.{pick}
use Rattle.utf8.specs.Utf8.{decode, valid_prefix}
use Rattle.utf8.specs.declared.Char.{Char}

-- a character: its code, its byte place and its width in bytes
pub record Ch : Type 0 where
  pub code : ℕ
  pub at : ℕ
  pub width : ℕ

-- the character of code c at place p, w bytes wide
abbrev pub ch : ℕ → ℕ → ℕ → Ch
ch c p w = record { code = c; at = p; width = w }

-- the character seen at place p, and after it what `more` says of the bytes after its first, the next w - 1 of which are its own
abbrev pub leads : ℕ → (ℕ → List Ch) → Option Char → List Ch
leads p more None = []
leads p more (Some seen) = ch seen.code p seen.width ∷ more (pred seen.width)

-- the characters of a list of bytes that starts at place p, of which the first k bytes belong to the character before
unfoldable pub chars_at : ℕ → ℕ → List ℕ → List Ch
chars_at p k [] = []
chars_at p zero (b ∷ r) = leads p (λ k. chars_at (suc p) k r) (decode (b ∷ r))
chars_at p (suc k) (b ∷ r) = chars_at (suc p) k r

-- the characters of a text from place i on (R3.2)
unfoldable pub chars_from : List ℕ → ℕ → List Ch
chars_from t i = chars_at i 0 (drop i t)

-- the characters that stand before byte e
unfoldable pub before : ℕ → List Ch → List Ch
before e [] = []
before e (c ∷ cs) = pick (ltb c.at e) (c ∷ before e cs) []

-- the characters from place i on that stand before byte e
abbrev pub chars_of : List ℕ → ℕ → ℕ → List Ch
chars_of t i e = before e (chars_from t i)

-- what a check of a text tells: how long the longest prefix is that is UTF-8, and how many characters stand there
abbrev pub CheckedAs : List ℕ → ℕ → ℕ → Type 0
CheckedAs t valid chars = (valid ≡ valid_prefix t) × (chars ≡ length (chars_of t 0 (valid_prefix t)))

-- the characters at the start whose code passes the test, as far as they go
unfoldable pub take_while : (ℕ → Bool) → List Ch → List Ch
take_while f [] = []
take_while f (c ∷ cs) = pick (f c.code) (c ∷ take_while f cs) []

-- the characters after those
unfoldable pub drop_while : (ℕ → Bool) → List Ch → List Ch
drop_while f [] = []
drop_while f (c ∷ cs) = pick (f c.code) (drop_while f cs) (c ∷ cs)

-- how many bytes characters take
unfoldable pub bytes : List Ch → ℕ
bytes [] = 0
bytes (c ∷ cs) = c.width + bytes cs

-- where the run of characters that pass the test ends, from place i on (R3.5)
unfoldable pub run_end : (ℕ → Bool) → List ℕ → ℕ → ℕ
run_end f t i = i + bytes (take_while f (chars_from t i))
