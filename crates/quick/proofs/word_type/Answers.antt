-- `quick::word_type` meets its contract: it is the definition.
use Rattle.quick.proofs.word_type.Goals as goal

pub returns : goal.returns
returns c = rw c.is_blank.ensures
