-- `answer::decide::mode_of` meets its contract: a number that is no mode's is read as Diagnostic.
use mathlib.Core.Path.{◌∙◌}
use Rattle.answer.proofs.Decisions.{mode_is}
use Rattle.answer.proofs.decide.mode_of.Goals as goal

pub returns : goal.returns
returns c = c.unwrap_or.ensures ∙ mode_is _ _ c.try_from.ensures
