-- `pen::put_byte` meets its contract: a store where the buffer goes so far, and none beyond.
use mathlib.Core.Path.{refl}
use mathlib.Core.List.{[], ◌∷◌}
use Rattle.pen.specs.PenLaws.{over_set, over_out}
use Rattle.pen.proofs.put_byte.Goals as goal

pub returns-then-at-out : goal.returns-then-at-out
returns-then-at-out c = let a = c.args in record { place = refl; bytes = over_set a.out.now a.at a.b c.if-at-out.true }

pub returns : goal.returns
returns c = let a = c.args in record { place = refl; bytes = over_out a.out.now a.at (a.b ∷ []) c.if-at-out.false }
