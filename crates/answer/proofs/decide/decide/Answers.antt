-- `answer::decide::decide` meets its contract: that of a fresh text.
use Rattle.answer.proofs.Decisions.{fresh_decided}
use Rattle.answer.proofs.decide.decide.Goals as goal

pub returns : goal.returns
returns c = fresh_decided _ _ _ _ c.fresh.ensures c.decide_by.ensures
