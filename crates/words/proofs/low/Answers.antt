-- `words::low` meets its contract: it is the definition.
use mathlib.Core.Path.{refl}
use Rattle.words.specs.Layout.{low_of}
use Rattle.words.proofs.low.Goals as goal

pub returns : goal.returns
unfolding low_of
returns c = refl
