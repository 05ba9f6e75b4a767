-- `passing::pass_open` meets its contract: what is told without a flaw, and holds in the mode, is the step.
use Rattle.passing.proofs.Passings.{open_passes}
use Rattle.passing.proofs.pass_open.Goals as goal

pub returns : goal.returns
returns c =
    open_passes _ _ _ _ c.requires.2 c.in_ok-told.ensures
    (c.told_clear.ensures c.if-not-told_clear.false)
    c.after_told.ensures
