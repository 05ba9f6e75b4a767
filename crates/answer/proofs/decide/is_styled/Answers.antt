-- `answer::decide::is_styled` meets its contract: without a style there is no snippet.
use Rattle.answer.proofs.Decisions.{unstyled}
use Rattle.answer.proofs.decide.is_styled.Goals as goal

pub returns-in-None : goal.returns-in-None
returns-in-None c = rw c.in-None.is (unstyled _)
