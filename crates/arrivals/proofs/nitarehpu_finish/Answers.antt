-- `arrivals::nitarehpu_finish` meets its contract: with room for the answer and the state the bytes that were taken are read, and the answer is written. Assumes
-- nothing.
use Rattle.arrivals.proofs.Closing.{no_answer, no_state, whole}
use Rattle.arrivals.proofs.nitarehpu_finish.Goals as goal

pub returns-then-answer-lt8 : goal.returns-then-answer-lt8
returns-then-answer-lt8 c = no_answer _ _ _ _ _ _ _ _ _ c.if-answer-lt8.true

pub returns-then-state-lt3 : goal.returns-then-state-lt3
returns-then-state-lt3 c = no_state _ _ _ _ _ _ _ _ _ c.if-state-lt3.true

pub returns : goal.returns
returns c =
    rw (← c.request_of-request.ensures)
    (whole _ _ _ _ _ _ _ _ _ c.if-answer-lt8.false c.if-state-lt3.false c.state_of-before.ensures c.taken-text.ensures c.asked_of-asked.ensures
    c.read_by-got.ensures c.put_answer.ensures)
