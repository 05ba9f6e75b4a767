-- `passing::pass` meets its contract: a placeholder, literal text, or neither.
use Rattle.passing.proofs.Passings.{text_passes}
use Rattle.passing.proofs.pass.Goals as goal

pub pass_open-requires : goal.pass_open-requires
pass_open-requires c = let p = c.requires in (p.0, p.1, c.is_open.ensures c.if-is_open.true)

pub returns : goal.returns
returns c = text_passes _ _ _ _ _ c.pass_text.ensures
