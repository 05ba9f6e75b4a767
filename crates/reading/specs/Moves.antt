-- How many characters a reading passes: "forward moves are counted, those over characters read a second time included". Reading goes back in one
-- place only: a word that is read for a count, and that no `$` follows, is given back, and is read a second time from there.
use Rattle.std.specs.Prelude.{ℕ, ◌+◌, List, [], ◌∷◌, length}
use Prim.Native.Char.{code}
use Rattle.utf8.specs.Choice.{pick, either}
use Rattle.frame.specs.declared.Frame.{Frame}
use Rattle.frame.specs.declared.Mode.{Mode}
use Rattle.frame.specs.declared.TextPlace.{TextPlace}
use Rattle.scan.specs.Characters.{is_at}
use Rattle.reading.specs.Lines.{chars_in}
use Rattle.reading.specs.Steps.{reading}
use Rattle.reading.specs.declared.Step.{Step}

-- 1 where a brace stands at a place, else 0: a view that starts with one leaves out the first of a doubled one
unfoldable pub brace_at : List ℕ → TextPlace → ℕ
brace_at t at = pick (either (is_at t at (code "{")) (is_at t at (code "}"))) 1 0

-- a step's moves: over a lone `}`; over a literal, with the brace that its view leaves out; over a placeholder, from its opening brace to where
-- reading stood afterwards, and over what it gave back (R5.20, R5.21)
abbrev pub step_moves : List ℕ → Step → ℕ
step_moves t Step.End = 0
step_moves t (Step.Stop p) = 1
step_moves t (Step.Literal r) = brace_at t r.start + length (chars_in t r)
step_moves t (Step.Placeholder p) = length (chars_in t p.argument.range) + p.given

-- those of some steps
unfoldable pub moves_in : List ℕ → List Step → ℕ
moves_in t [] = 0
moves_in t (x ∷ xs) = step_moves t x + moves_in t xs

-- THE MOVES OF A READING (R5.20)
unfoldable pub moves : List ℕ → Frame → Mode → ℕ
moves t f m = moves_in t (reading t f m)
