-- The three questions of an ASCII character, by its byte. Rests on Choice.
use Rattle.std.specs.Prelude.{ℕ, Bool, eqb}
use Rattle.utf8.specs.Choice.{either, within}

-- a space, or 9 to 13
unfoldable pub ascii_space : ℕ → Bool
ascii_space b = either (eqb b 0x20) (within b 9 13)

-- a letter or `_`
unfoldable pub ascii_start : ℕ → Bool
ascii_start b = either (within b 0x61 0x7A) (either (within b 0x41 0x5A) (eqb b 0x5F))

-- a letter, `_` or a digit
unfoldable pub ascii_continue : ℕ → Bool
ascii_continue b = either (within b 0x30 0x39) (ascii_start b)
