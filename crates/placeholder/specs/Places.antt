-- The place of an argument: "A place is a number, a word, or nothing."
use Rattle.std.specs.Prelude.{Bool, false, List, ℕ, eqb, Option, Some, None}
use Prim.Native.Char.{code}
use Rattle.utf8.specs.Choice.{pick}
use Rattle.frame.specs.Places.{range_of}
use Rattle.frame.specs.declared.TextPlace.{TextPlace}
use Rattle.frame.specs.declared.TextRange.{TextRange}
use Rattle.scan.specs.Characters.{consumed}
use Rattle.scan.specs.Words.{word_read, number_read}
use Rattle.scan.specs.Counts.{is_empty}
use Rattle.scan.specs.declared.Flaw.{Flaw}
use Rattle.scan.specs.declared.NumberRead.{NumberRead}
use Rattle.scan.specs.declared.WordRead.{WordRead}
use Rattle.placeholder.specs.declared.position.Found.{Found}
use Rattle.placeholder.specs.declared.position.PlaceRead.{PlaceRead}
use Rattle.scan.specs.declared.Numeral.{Numeral}

abbrev pub placed : Found → TextPlace → Flaw → Flaw → PlaceRead
placed x at flaw raw = record { found = x; at = at; flaw = flaw; raw = raw }

-- a word is `r`
unfoldable pub is_r : List ℕ → TextRange → Bool
is_r t name =
    let letter = consumed t name.start (code "r") in
    pick letter.ate (eqb letter.at.0 name.end.0) false

-- the word inside an `r#` name is the place, and kind 4 is its flaw; a word `_` there is one too
abbrev pub raw_name : TextRange → WordRead → PlaceRead
raw_name name inner =
    placed (Found.Word inner.word) inner.word.end inner.flaw (Flaw.RawName (range_of name.start inner.word.end))

-- after the word `r`: `#` and a further word, else the word itself (R5.5, K4)
unfoldable pub raw_place : List ℕ → TextRange → PlaceRead
raw_place t name =
    let hash = consumed t name.end (code "#") in
    let inner = word_read t hash.at in
    let plain = placed (Found.Word name) name.end Flaw.Clean Flaw.Clean in
    pick hash.ate (pick (is_empty inner.word) plain (raw_name name inner)) plain

-- a word, or nothing
abbrev pub word_after : List ℕ → TextPlace → WordRead → PlaceRead
word_after t at w =
    pick (is_empty w.word)
    (placed Found.Nothing at Flaw.Clean Flaw.Clean)
    (pick (is_r t w.word) (raw_place t w.word) (placed (Found.Word w.word) w.word.end w.flaw Flaw.Clean))

unfoldable pub word_place : List ℕ → TextPlace → PlaceRead
word_place t at = word_after t at (word_read t at)

abbrev pub place_after : List ℕ → TextPlace → NumberRead → Option Numeral → PlaceRead
place_after t at r (Some n) = placed (Found.Number n) r.digits.end r.flaw Flaw.Clean
place_after t at r None = word_place t at

-- the place of an argument at a place of the text (R5.4)
unfoldable pub place_read : List ℕ → TextPlace → PlaceRead
place_read t at = place_after t at (number_read t at) (number_read t at).number
