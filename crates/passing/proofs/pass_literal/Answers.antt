-- `passing::pass_literal` meets its contract: reading goes on where the run of plain characters ends.
use mathlib.Core.Path.{◌∙◌}
use Rattle.passing.proofs.Passings.{literal_passes}
use Rattle.passing.proofs.pass_literal.Goals as goal

pub returns : goal.returns
returns c = literal_passes _ _ _ _ c.requires (c.string_end.ensures ∙ rw c.whole.ensures)
