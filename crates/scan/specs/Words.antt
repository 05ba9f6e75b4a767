-- A word and a number at a place.
use Rattle.std.specs.Prelude.{ℕ, ◌+◌, ◌-◌, ◌*◌, Bool, List, [], ◌∷◌, ◌==◌, nat_lt, Some, None, Option}
use Prim.Native.Char.{code}
use Rattle.utf8.specs.Choice.{pick, both, within}
use Rattle.utf8.specs.Utf8.{peek_at}
use Rattle.utf8.specs.Chars.{Ch, chars_from, take_while, run_end}
use Rattle.letters.specs.Questions.{is_start, is_continue}
use Rattle.frame.specs.Places.{place, range_of}
use Rattle.frame.specs.declared.TextPlace.{TextPlace}
use Rattle.frame.specs.declared.TextRange.{TextRange}
use Rattle.scan.specs.Characters.{is_at}
use Rattle.scan.specs.declared.Flaw.{Flaw}
use Rattle.scan.specs.declared.WordRead.{WordRead}
use Rattle.scan.specs.declared.NumberRead.{NumberRead}
use Rattle.scan.specs.declared.Numeral.{Numeral}
use Rattle.utf8.specs.declared.Char.{Char}

-- the end of the word whose first character is seen at a place
abbrev pub word_seen : List ℕ → TextPlace → Option Char → TextPlace
word_seen t at None = at
word_seen t at (Some seen) = pick (is_start seen.code) (place (run_end is_continue t (at.0 + seen.width))) at

-- "A word is one start and then continuations, taken as far as they go." (R3.5)
unfoldable pub word_end : List ℕ → TextPlace → TextPlace
word_end t at = word_seen t at (peek_at t at.0)

-- the same, where the characters before a place past the word's start were passed; where it is not past it, none were
unfoldable pub word_from : List ℕ → TextPlace → ℕ → TextPlace
word_from t at known = pick (nat_lt at.0 known) (place (run_end is_continue t known)) (word_end t at)

-- the word from a place to its end is `_` (R3.6)
unfoldable pub is_underscore : List ℕ → TextPlace → TextPlace → Bool
is_underscore t at end = both (is_at t at (code "_")) (end.0 == at.0 + 1)

-- the word at a place, with kind 6 where it is `_`; "a word that is empty has the empty byte range where reading stood" (R3.5, K6)
unfoldable pub word_read : List ℕ → TextPlace → WordRead
word_read t at =
    let end = word_end t at in
    record {
      word = range_of at end;
      flaw = pick (is_underscore t at end) (Flaw.Underscore (range_of at end)) Flaw.Clean;
    }

-- an ASCII digit (R3.7)
unfoldable pub is_digit : ℕ → Bool
is_digit c = within c 0x30 0x39

-- the number that digits spell, after the number n (R3.7)
unfoldable pub decimal : ℕ → List Ch → ℕ
decimal n [] = n
decimal n (c ∷ cs) = decimal (n * 10 + (c.code - 0x30)) cs

-- a number as it is answered: "over range" above 65,535, else the number itself (R3.7)
unfoldable pub numeral : ℕ → Numeral
numeral n = pick (nat_lt 65535 n) Numeral.Over (Numeral.Within n)

-- "Above 65,535 it is an error": kind 7, of its digits (K7)
abbrev pub too_large : Numeral → TextRange → Flaw
too_large (Numeral.Within n) digits = Flaw.Clean
too_large Numeral.Over digits = Flaw.TooLarge digits

-- the digits at a place
unfoldable pub digits_at : List ℕ → TextPlace → List Ch
digits_at t at = take_while is_digit (chars_from t at.0)

-- what the digits between two places come to, where they spell a number that is answered so (R3.7)
unfoldable pub number_from : Numeral → TextPlace → TextPlace → NumberRead
number_from n at end =
    pick (at.0 == end.0)
    (record { number = None; digits = range_of at end; flaw = Flaw.Clean })
    (record { number = Some n; digits = range_of at end; flaw = too_large n (range_of at end) })

-- "A number is one or more ASCII digits." (R3.7)
unfoldable pub number_read : List ℕ → TextPlace → NumberRead
number_read t at = number_from (numeral (decimal 0 (digits_at t at))) at (place (run_end is_digit t at.0))
