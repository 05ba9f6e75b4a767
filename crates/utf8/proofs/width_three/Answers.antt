-- `utf8::width_three` meets its contract: each way out rewrites with the tests that led there. Assumes nothing.
use borrow.Author.Tests.{lt-ltb, le-ltb, not-true, not-false}
use mathlib.Core.Path.{sym, ◌∙◌}
use native.Mathlib.Omega.{arith}
use Rattle.utf8.specs.Choice.{pick}
use Rattle.utf8.specs.Utf8.{sequence_of}
use Rattle.utf8.proofs.width_three.Goals as goal

pub returns-then-not-second : goal.returns-then-not-second
unfolding sequence_of pick
returns-then-not-second c =
    let b = c.args.b in
    let h = c.requires in
    λ e. simp (le-ltb b 0x80 (omega arith), le-ltb b 0xC2 (omega arith), sym c.second.ensures ∙ not-true _ c.if-not-second.true-raw)

pub returns-then-later : goal.returns-then-later
unfolding sequence_of pick
returns-then-later c =
    let b = c.args.b in
    let h = c.requires in
    λ e. simp (le-ltb b 0x80 (omega arith), le-ltb b 0xC2 (omega arith), sym c.second.ensures ∙ not-false _ c.if-not-second.false-raw, le-ltb _ _ h.0, sym c.later.ensures ∙ c.if-later.true, lt-ltb _ _ h.1)

pub returns-else-later : goal.returns-else-later
unfolding sequence_of pick
returns-else-later c =
    let b = c.args.b in
    let h = c.requires in
    λ e. simp (le-ltb b 0x80 (omega arith), le-ltb b 0xC2 (omega arith), sym c.second.ensures ∙ not-false _ c.if-not-second.false-raw, le-ltb _ _ h.0, sym c.later.ensures ∙ c.if-later.false)
