-- White_Space: ten closed ranges, low and high bound in turn.
-- Written by `oracle/tables` with the constants of src/tables.rt, which have the same numbers.
use Rattle.std.specs.Prelude.{ℕ, List, [], ◌∷◌}

unfoldable pub space : List ℕ
space =
    0x9 ∷ 0xD ∷ 0x20 ∷ 0x20 ∷ 0x85 ∷ 0x85 ∷ 0xA0 ∷ 0xA0 ∷
    0x1680 ∷ 0x1680 ∷ 0x2000 ∷ 0x200A ∷ 0x2028 ∷ 0x2029 ∷ 0x202F ∷ 0x202F ∷
    0x205F ∷ 0x205F ∷ 0x3000 ∷ 0x3000 ∷
    []
