-- `scan::plains` meets its contract: the eight answers are the block's, one by one, and each is at most 1.
use Rattle.std.proofs.Common.{arith}
use Rattle.utf8.specs.BlockLaws.{eight}
use Rattle.scan.specs.Characters.{is_plain}
use Rattle.scan.proofs.plains.Goals as goal

pub returns : goal.returns
returns c = (
  eight is_plain _ _ c.plain.ensures.0 c.plain-2.ensures.0 c.plain-3.ensures.0 c.plain-4.ensures.0 c.plain-5.ensures.0 c.plain-6.ensures.0 c.plain-7.ensures.0 c.plain-8.ensures.0,
  omega arith,
)
