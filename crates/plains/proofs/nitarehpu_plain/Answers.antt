-- `plains::nitarehpu_plain` meets its contract: with room for the numbers the text is tidied, and the answer written.
use Rattle.plains.proofs.Telling.{short, whole}
use Rattle.plains.proofs.nitarehpu_plain.Goals as goal

pub returns-then-answer-lt4 : goal.returns-then-answer-lt4
returns-then-answer-lt4 c = short _ _ _ _ c.if-answer-lt4.true

pub returns : goal.returns
returns c =
    whole _ _ _ _ c.if-answer-lt4.false c.tidy-told.ensures c.put_told.ensures
