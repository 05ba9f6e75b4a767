-- `scan::plain_blocks` meets its contract. The invariant: `i` is within the text, and the run of plain characters from `i` ends where
-- the run from `at` does, since each turn passes a block without a brace. The measure is what is left of the text.
use Rattle.std.proofs.Common.{refl, ◌∙◌, arith}
use borrow.Author.Tests.{not-false}
use Rattle.utf8.specs.BlockLaws.{run_block}
use Rattle.scan.specs.Characters.{is_plain}
use Rattle.scan.specs.ScanLaws.{plain_high}
use Rattle.scan.proofs.plain_blocks.Goals as goal

pub loop-i-init : goal.loop-i-init
loop-i-init c = (omega arith, refl)

pub returns-then-not-is_plain : goal.returns-then-not-is_plain
returns-then-not-is_plain c = (c.loop-i.invariant.1, c.loop-i.invariant.0)

pub loop-i-preserved : goal.loop-i-preserved
loop-i-preserved c =
    let t = c.args.text.now in
    let i = c.loop-i.i in
    (omega arith, run_block is_plain plain_high t i 32 (omega arith) (c.is_plain.ensures (not-false _ c.if-not-is_plain.false-raw)) ∙ c.loop-i.invariant.1)

pub returns : goal.returns
returns c = (c.loop-i.invariant.1, c.loop-i.invariant.0)
