-- A text that is not refused has a small frame.
use Rattle.answer.specs.DecisionLaws.{opened_small}
use Rattle.members.proofs.explain.Goals as goal

pub piece_at-piece-requires : goal.piece_at-piece-requires
piece_at-piece-requires g c = opened_small _ _ _ (rw c.in-Ok.is at c.opened.ensures)
