-- The three questions about a character, asked of its code. Rests on Table and on the tables of Space, Start and Continue.
use Rattle.std.specs.Prelude.{ℕ, Bool}
use Rattle.letters.specs.Table.{member}
use Rattle.letters.specs.Space.{space}
use Rattle.letters.specs.Start.{start}
use Rattle.letters.specs.Continue.{continue}

-- Whitespace is White_Space, ten closed ranges. (R3.3)
unfoldable pub is_space : ℕ → Bool
is_space c = member space c

-- Identifier start is `_` or XID_Start. (R3.4)
unfoldable pub is_start : ℕ → Bool
is_start c = member start c

-- Continuation is XID_Continue. (R3.4)
unfoldable pub is_continue : ℕ → Bool
is_continue c = member continue c
