-- `upload::taken` meets its contract: a count beyond the buffer takes all of it. Assumes nothing.
use mathlib.Core.Path.{sym}
use native.Mathlib.Omega.{arith}
use lib.Seq.{take_all, length-take-le}
use Rattle.upload.proofs.taken.Goals as goal

pub returns-then-buffer-count : goal.returns-then-buffer-count
returns-then-buffer-count c = let a = c.args in sym (take_all a.state.count a.buffer.now (omega (arith, c.if-buffer-count.true)))

pub slice_bounds-result-end : goal.slice_bounds-result-end
slice_bounds-result-end c = sym (length-take-le _ _ c.if-buffer-count.false)
