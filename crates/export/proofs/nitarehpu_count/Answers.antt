-- `export::nitarehpu_count` meets its contract: with room for the answer it is decided for lists that are never too short, and written.
use Rattle.export.proofs.Calling.{short_count, whole_count}
use Rattle.export.proofs.nitarehpu_count.Goals as goal

pub returns-then-answer-lt8 : goal.returns-then-answer-lt8
returns-then-answer-lt8 c = short_count _ _ _ _ c.if-answer-lt8.true

pub returns : goal.returns
returns c =
    rw (← c.request_of-request.ensures)
    (whole_count _ _ _ _ c.if-answer-lt8.false c.decide-decision.ensures c.put_answer.ensures)
