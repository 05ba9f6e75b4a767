-- `frame::start_of` meets its contract: one case within the text, one past it.
use Prim.Native.Nat.{◌<◌, ◌≤◌}
use native.Mathlib.Omega.{arith}
use borrow.Author.Tests.{lt-ltb, le-ltb}
use lib.ListN.{length}
use Rattle.utf8.specs.Choice.{pick}
use Rattle.frame.specs.Spans.{start_of}
use Rattle.frame.proofs.start_of.Goals as goal

pub returns-then-i-text : goal.returns-then-i-text
unfolding start_of pick
returns-then-i-text c =
    let args = c.args in
    let inside : args.at.0 < length args.text.now = omega arith in
    rw (lt-ltb _ _ inside) c.to_snippet.ensures

pub returns-else-i-text : goal.returns-else-i-text
unfolding start_of pick
returns-else-i-text c =
    let args = c.args in
    let past : length args.text.now ≤ args.at.0 = omega arith in
    rw (le-ltb _ _ past)
