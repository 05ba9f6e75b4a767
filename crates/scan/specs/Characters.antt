-- A character at a place of the text, and what is passed over it: one ASCII character, any character, whitespace, literal text.
-- Rests on `utf8`'s decoding and runs, and `letters`' White_Space.
use Rattle.std.specs.Prelude.{ℕ, ◌+◌, Bool, true, false, List, ◌==◌, Option, Some, None}
use Prim.Native.Char.{code}
use Rattle.utf8.specs.Choice.{pick}
use Rattle.utf8.specs.Utf8.{peek_at}
use Rattle.utf8.specs.Chars.{run_end}
use Rattle.letters.specs.Questions.{is_space}
use Rattle.frame.specs.Places.{place}
use Rattle.frame.specs.declared.TextPlace.{TextPlace}
use Rattle.scan.specs.declared.Consumed.{Consumed}
use Rattle.utf8.specs.declared.Char.{Char}

-- what is seen is the character c
abbrev pub sees : ℕ → Option Char → Bool
sees c None = false
sees c (Some seen) = seen.code == c

-- the character at a place is c (R3.2)
unfoldable pub is_at : List ℕ → TextPlace → ℕ → Bool
is_at t at c = sees c (peek_at t at.0)

-- how many bytes what is seen takes
abbrev pub width : Option Char → ℕ
width None = 0
width (Some seen) = seen.width

-- the place after the character at a place; at the end, the place itself (R3.2)
unfoldable pub past_at : List ℕ → TextPlace → TextPlace
past_at t at = place (at.0 + width (peek_at t at.0))

-- the ASCII character c is passed if it stands at the place (R3.2)
unfoldable pub consumed : List ℕ → TextPlace → ℕ → Consumed
consumed t at c = record { ate = is_at t at c; at = pick (is_at t at c) (place (at.0 + 1)) at }

-- all whitespace at a place is passed (R3.3)
unfoldable pub spaces_past : List ℕ → TextPlace → TextPlace
spaces_past t at = place (run_end is_space t at.0)

-- a character that is no brace (R3.8)
unfoldable pub is_plain : ℕ → Bool
is_plain c = pick (c == (code "{")) false (pick (c == (code "}")) false true)

-- "Each run goes to the next brace or the end." (R4.2, R5.1)
unfoldable pub text_end : List ℕ → TextPlace → TextPlace
text_end t at = place (run_end is_plain t at.0)
