-- A mark of a call's numbers. Rests on Calls.
use Prim.Native.Nat.{ℕ}
use mathlib.Core.Path.{◌≡◌, refl}
use mathlib.Core.Bool.{Bool, true, false, not}
use lib.Dec.{eqb}
use Rattle.utf8.specs.Choice.{pick}
use Rattle.words.specs.Calls.{is_yes}

-- any mark but 0 is a yes
pub yes : (n : ℕ) → not (eqb n 0) ≡ is_yes n
unfolding is_yes pick
yes n = go (eqb n 0)
  where
    go : (b : Bool) → not b ≡ pick b false true
    go true = refl
    go false = refl
