-- `quick::word_end` meets its contract: it is where the word ends.
use Rattle.quick.proofs.word_end.Goals as goal

pub returns : goal.returns
returns c = c.word_at-word.ensures.ends
