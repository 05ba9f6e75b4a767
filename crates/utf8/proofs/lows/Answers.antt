-- `utf8::lows` meets its contract: the eight answers are the block's, one by one, and each is at most 1. Assumes nothing.
use native.Mathlib.Omega.{arith}
use Rattle.utf8.specs.Blocks.{is_low}
use Rattle.utf8.specs.BlockLaws.{eight}
use Rattle.utf8.proofs.lows.Goals as goal

pub returns : goal.returns
returns c = (
  eight is_low _ _ c.low.ensures.0 c.low-2.ensures.0 c.low-3.ensures.0 c.low-4.ensures.0 c.low-5.ensures.0 c.low-6.ensures.0 c.low-7.ensures.0 c.low-8.ensures.0,
  omega arith,
)
