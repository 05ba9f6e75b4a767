-- A count at a place: "A width is a number, number`$` or word`$`."
use Rattle.std.specs.Prelude.{ℕ, Bool, List, length, ◌==◌, Option, Some, None}
use Prim.Native.Char.{code}
use Rattle.utf8.specs.Choice.{pick}
use Rattle.utf8.specs.Chars.{chars_of}
use Rattle.frame.specs.Spans.{span_between}
use Rattle.frame.specs.declared.TextPlace.{TextPlace}
use Rattle.frame.specs.declared.TextRange.{TextRange}
use Rattle.frame.specs.declared.Frame.{Frame}
use Rattle.scan.specs.Characters.{consumed}
use Rattle.scan.specs.Words.{word_read, number_read}
use Rattle.scan.specs.declared.Flaw.{Flaw}
use Rattle.scan.specs.declared.WordRead.{WordRead}
use Rattle.scan.specs.declared.NumberRead.{NumberRead}
use Rattle.scan.specs.declared.Numeral.{Numeral}
use Rattle.scan.specs.declared.Count.{Count}
use Rattle.scan.specs.declared.CountRead.{CountRead}

-- a range that holds nothing
unfoldable pub is_empty : TextRange → Bool
is_empty r = r.start.0 == r.end.0

abbrev pub counted : Count → TextPlace → Flaw → ℕ → CountRead
counted n at x given = record { count = n; at = at; flaw = x; given = given }

-- a number, that ended at a place: with `$` after it, an argument's, over range or not (R5.10)
unfoldable pub number_count : List ℕ → Numeral → TextPlace → Flaw → CountRead
number_count t n at x =
    let dollar = consumed t at (code "$") in
    pick dollar.ate (counted (Count.ByArgument n) dollar.at x 0) (counted (Count.Fixed n) at x 0)

-- a word with `$` after it; without one it is given back: nothing is taken, and the word's flaw is kept (R5.10, R5.21)
abbrev pub name_after : List ℕ → Frame → TextPlace → WordRead → CountRead
name_after t f at w =
    let dollar = consumed t w.word.end (code "$") in
    pick (is_empty w.word) (counted Count.Implied at w.flaw 0)
    (pick dollar.ate
    (counted (Count.ByName w.word (span_between t f at w.word.end)) dollar.at w.flaw 0)
    (counted Count.Implied at w.flaw (length (chars_of t at.0 w.word.end.0))))

unfoldable pub name_count : List ℕ → Frame → TextPlace → CountRead
name_count t f at = name_after t f at (word_read t at)

abbrev pub count_after : List ℕ → Frame → TextPlace → NumberRead → Option Numeral → CountRead
count_after t f at r (Some n) = number_count t n r.digits.end r.flaw
count_after t f at r None = name_count t f at

-- the count at a place (R5.10)
unfoldable pub count_read : List ℕ → Frame → TextPlace → CountRead
count_read t f at = count_after t f at (number_read t at) (number_read t at).number
