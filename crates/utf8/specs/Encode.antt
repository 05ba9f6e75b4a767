-- UTF-8 the other way: the bytes that spell a code, and those that spell characters. Rests on Choice and Chars.
use Rattle.std.specs.Prelude.{ℕ, ◌+◌, ◌/◌, ◌%◌, List, [], ◌∷◌, ◌++◌, ltb}
use Rattle.utf8.specs.Choice.{pick}
use Rattle.utf8.specs.Chars.{Ch}

-- the bytes that spell a code: one to four, by its size, six bits in each after the first
unfoldable pub encode : ℕ → List ℕ
encode c =
    pick (ltb c 0x80) (c ∷ [])
    (pick (ltb c 0x800) ((0xC0 + c / 64) ∷ (0x80 + c % 64) ∷ [])
    (pick (ltb c 0x10000) ((0xE0 + c / 64 / 64) ∷ (0x80 + c / 64 % 64) ∷ (0x80 + c % 64) ∷ [])
    ((0xF0 + c / 64 / 64 / 64) ∷ (0x80 + c / 64 / 64 % 64) ∷ (0x80 + c / 64 % 64) ∷ (0x80 + c % 64) ∷ [])))

-- the bytes that spell characters, one after the other
unfoldable pub encode_all : List Ch → List ℕ
encode_all [] = []
encode_all (c ∷ cs) = encode c.code ++ encode_all cs
