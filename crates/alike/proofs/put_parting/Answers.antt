-- Texts that are not refused have small frames.
use Rattle.answer.specs.DecisionLaws.{opened_small}
use Rattle.alike.proofs.put_parting.Goals as goal

pub first_apart-requires : goal.first_apart-requires
first_apart-requires g c = (opened_small _ _ _ (rw c.in-Ok.is at c.opened.ensures), opened_small _ _ _ (rw c.in-Ok-opened.is at c.opened-2.ensures))
