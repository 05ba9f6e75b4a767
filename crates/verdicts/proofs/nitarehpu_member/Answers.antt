-- `verdicts::nitarehpu_member` meets its contract: with room for the numbers the text is judged, and the verdict written.
use Rattle.verdicts.proofs.Telling.{short, whole}
use Rattle.verdicts.proofs.nitarehpu_member.Goals as goal

pub returns-then-answer-lt4 : goal.returns-then-answer-lt4
returns-then-answer-lt4 c = short _ _ _ _ c.if-answer-lt4.true

pub returns : goal.returns
returns c =
    rw (← c.request_of-request.ensures)
    (whole _ _ _ _ c.if-answer-lt4.false c.judge-verdict.ensures c.told_of-numbers.ensures c.put_told.ensures)
