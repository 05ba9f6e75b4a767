-- `utf8::ascii_end` meets its contract: the bytes past the blocks go on where the blocks end. Assumes nothing.
use Rattle.utf8.specs.BlockLaws.{ascii_join}
use Rattle.utf8.proofs.ascii_end.Goals as goal

pub returns : goal.returns
returns c = ascii_join _ _ _ _ _ c.ascii_blocks-i.ensures c.ascii_bytes.ensures
