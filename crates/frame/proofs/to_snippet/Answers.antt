-- `frame::to_snippet` meets its contract: it is the sum that the definition says.
use mathlib.Core.Path.{refl}
use Rattle.frame.specs.Spans.{to_snippet}
use Rattle.frame.proofs.to_snippet.Goals as goal

pub returns : goal.returns
unfolding to_snippet
returns c = refl
