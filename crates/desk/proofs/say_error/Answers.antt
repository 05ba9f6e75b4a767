-- A text that is not refused has a small frame.
use Rattle.answer.specs.DecisionLaws.{opened_small}
use Rattle.desk.proofs.say_error.Goals as goal

pub say_first_error-requires : goal.say_first_error-requires
say_first_error-requires g c = opened_small _ _ _ (rw c.in-Ok.is at c.opened.ensures)
