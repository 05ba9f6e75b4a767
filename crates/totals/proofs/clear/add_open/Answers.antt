-- `totals::clear::add_open` meets its contract: what is told without a flaw is the step, and counts as its piece does.
use Rattle.totals.proofs.Clears.{open_counted}
use Rattle.totals.proofs.clear.add_open.Goals as goal

pub returns : goal.returns
returns c =
    open_counted _ _ _ _ c.requires.2 c.in_ok-told.ensures (c.told_clear.ensures c.if-not-told_clear.false) c.after_told.ensures
    c.add_told.ensures
