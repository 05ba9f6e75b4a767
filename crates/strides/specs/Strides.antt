-- How many characters a text has, and how often each mode passes one at most. Rests on `utf8`'s characters.
use Rattle.std.specs.Prelude.{ℕ, List, length}
use Rattle.utf8.specs.Chars.{chars_from}
use Rattle.frame.specs.declared.Mode.{Mode}

-- "the number of characters in the text"
abbrev pub characters : List ℕ → ℕ
characters t = length (chars_from t 0)

-- once in InlineAsm and Diagnostic; twice in Format, where a word that is read for a count may be read again
abbrev pub times : Mode → ℕ
times Mode.Format = 2
times Mode.InlineAsm = 1
times Mode.Diagnostic = 1
