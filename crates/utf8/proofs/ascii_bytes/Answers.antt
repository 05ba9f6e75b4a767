-- `utf8::ascii_bytes` meets its contract. The invariant: the bytes from `at` to `i` are ASCII, since each turn passes one more. The measure is what is
-- left of the text. Assumes nothing.
use Prim.Native.Nat.{◌+◌}
use native.Mathlib.Omega.{arith}
use borrow.Author.Tests.{lt-leb}
use Rattle.utf8.specs.Blocks.{is_high}
use Rattle.utf8.specs.BlockLaws.{how_many_one, ascii_none, ascii_block, ascii_join}
use Rattle.utf8.proofs.ascii_bytes.Goals as goal

pub loop-i-init : goal.loop-i-init
loop-i-init c = ascii_none _ _ _ (omega arith)

pub returns-then-text-i-ge128 : goal.returns-then-text-i-ge128
returns-then-text-i-ge128 c = c.loop-i.invariant

pub loop-i-preserved : goal.loop-i-preserved
loop-i-preserved c =
    let t = c.args.text.now in
    let i = c.loop-i.i in
    ascii_join t _ _ i (i + 1) c.loop-i.invariant (ascii_block t i _ 1 (omega arith) (omega arith) (how_many_one is_high t i (lt-leb _ _ c.if-text-i-ge128.false)))

pub returns : goal.returns
returns c = c.loop-i.invariant
