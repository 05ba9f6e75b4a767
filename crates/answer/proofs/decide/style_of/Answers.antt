-- `answer::decide::style_of` meets its contract: at most 255 hashes fit a byte, and are kept.
use mathlib.Core.Path.{◌∙◌}
use Rattle.answer.proofs.Decisions.{style_is}
use Rattle.answer.proofs.decide.style_of.Goals as goal

pub returns : goal.returns
returns c = rw c.in_ok-style.was (c.ok.ensures.value ∙ style_is _ _ c.try_from.ensures)
