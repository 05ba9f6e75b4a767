-- Ranges of letters that are asked by comparisons, low and high bound in turn: Latin, Greek and Cyrillic, Hebrew, Arabic, Devanagari, Thai, Georgian, the rest of
-- Latin, Kana, Han characters with the Yi syllables after them, and Hangul. What `is_frequent` and `in_script` in src/lib.rt compare with; part of the table of starts.
use Rattle.std.specs.Prelude.{ℕ, List, [], ◌∷◌}

unfoldable pub frequent : List ℕ
frequent =
    0xC0 ∷ 0xD6 ∷ 0xD8 ∷ 0xF6 ∷ 0xF8 ∷ 0x2C1 ∷ 0x3A3 ∷ 0x3F5 ∷
    0x3F7 ∷ 0x481 ∷ 0x5D0 ∷ 0x5EA ∷ 0x620 ∷ 0x64A ∷ 0x904 ∷ 0x939 ∷
    0xE01 ∷ 0xE30 ∷ 0x10D0 ∷ 0x10FA ∷ 0x1E00 ∷ 0x1F15 ∷ 0x3041 ∷ 0x3096 ∷
    0x30A1 ∷ 0x30FA ∷ 0x4E00 ∷ 0xA48C ∷ 0xAC00 ∷ 0xD7A3 ∷
    []
