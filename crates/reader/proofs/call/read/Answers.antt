-- `read` meets its contract: of a fresh text, what `read_by` gives is the call.
use Rattle.reader.proofs.Fresh.{fresh_read}
use Rattle.reader.proofs.call.read.Goals as goal

pub returns : goal.returns
returns c = let a = c.args in fresh_read a.text.now a.snippet.now a.request c.fresh.ensures c.read_by.ensures
