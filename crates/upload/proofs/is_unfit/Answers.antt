-- `upload::is_unfit` meets its contract: each way out by its tests. Assumes nothing.
use borrow.Author.Tests.{lt-ltb, le-ltb}
use Rattle.uploads.specs.Parts.{is_unfit}
use Rattle.upload.proofs.is_unfit.Goals as goal

pub returns-then-buffer-state : goal.returns-then-buffer-state
unfolding is_unfit
returns-then-buffer-state c = rw (lt-ltb _ _ c.if-buffer-state.true)

pub returns : goal.returns
unfolding is_unfit
returns c = rw (le-ltb _ _ c.if-buffer-state.false)
