-- `answer::decide::opened` meets its contract: that of a fresh text.
use Rattle.answer.proofs.Decisions.{fresh_opened}
use Rattle.answer.proofs.decide.opened.Goals as goal

pub returns : goal.returns
returns c = fresh_opened _ _ _ c.fresh.ensures c.opened_by.ensures
