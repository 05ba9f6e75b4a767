-- `utf8::second` meets its contract, by what its callees ensure. Assumes nothing.
use Rattle.utf8.proofs.second.Goals as goal

pub returns : goal.returns
returns c = cc
