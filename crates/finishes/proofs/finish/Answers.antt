-- `finish` meets its contract: the bytes that were taken are read by what is asked of them; what that gives is the finish.
use Rattle.finishes.proofs.Finishing.{finished_by}
use Rattle.finishes.proofs.finish.Goals as goal

pub returns : goal.returns
returns c =
    let a = c.args in
    finished_by a.state a.buffer.now a.snippet.now a.request c.taken-text.ensures c.asked_of-asked.ensures c.read_by.ensures
