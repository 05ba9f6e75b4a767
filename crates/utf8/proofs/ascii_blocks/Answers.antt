-- `utf8::ascii_blocks` meets its contract. The invariant: the bytes from `at` to `i` are ASCII, since each turn passes a block of them; the last block
-- before `stop` begins at `i` or before it. The measure is what is left of the text. Assumes nothing.
use Prim.Native.Nat.{◌+◌}
use native.Mathlib.Omega.{arith}
use Rattle.utf8.specs.BlockLaws.{ascii_none, ascii_block, ascii_last, ascii_join}
use Rattle.utf8.proofs.ascii_blocks.Goals as goal

pub returns-then-byte-ge128 : goal.returns-then-byte-ge128
returns-then-byte-ge128 c = ascii_none _ _ _ (omega arith)

pub loop-i-init : goal.loop-i-init
loop-i-init c = ascii_none _ _ _ (omega arith)

pub loop-i-preserved : goal.loop-i-preserved
loop-i-preserved c =
    let t = c.args.text.now in
    let i = c.loop-i.i in
    ascii_join t _ _ i (i + 32) c.loop-i.invariant (ascii_block t i _ 32 (omega arith) (omega arith) (c.is_ascii.ensures c.if-not-is_ascii.false))

pub returns-then-is_ascii : goal.returns-then-is_ascii
returns-then-is_ascii c =
    let a = c.args in
    let i = c.loop-i.i in
    ascii_join a.text.now _ _ i _ c.loop-i.invariant (ascii_last a.text.now i a.stop 32 (omega arith) (omega arith) (omega arith) (omega arith) (c.is_ascii-then-stop-ge32.ensures c.if-is_ascii.true))
