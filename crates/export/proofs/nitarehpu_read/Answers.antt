-- `export::nitarehpu_read` meets its contract: with room for the answer the text is read, at once where the call is bare, and the answer is written.
use Rattle.export.proofs.Bare.{bare_call}
use Rattle.export.proofs.Calling.{short_call, whole_call}
use Rattle.export.proofs.nitarehpu_read.Goals as goal

pub returns-then-answer-lt8 : goal.returns-then-answer-lt8
returns-then-answer-lt8 c = short_call _ _ _ _ _ _ _ _ c.if-answer-lt8.true

pub read_bare-got-requires : goal.read_bare-got-requires
read_bare-got-requires c = c.is_ample-ample.ensures (c.is_bare.ensures c.if-is_bare.true).ample

pub returns-then-is_bare : goal.returns-then-is_bare
returns-then-is_bare c = bare_call _ _ _ _ _ _ _ _ c.if-answer-lt8.false (c.is_bare.ensures c.if-is_bare.true) c.read_bare-got.ensures c.put_answer.ensures

pub returns : goal.returns
returns c =
    rw (← c.request_of-request.ensures)
    (whole_call _ _ _ _ _ _ _ _ c.if-answer-lt8.false c.fresh-asked.ensures c.read_by-got.ensures c.put_answer-2.ensures)
