-- `utf8::width_four` meets its contract: each way out rewrites with the tests that led there. Assumes nothing.
use borrow.Author.Tests.{lt-ltb, le-ltb, not-true, not-false}
use mathlib.Core.Path.{sym, ◌∙◌}
use native.Mathlib.Omega.{arith}
use Rattle.utf8.specs.Choice.{pick}
use Rattle.utf8.specs.Utf8.{sequence_of}
use Rattle.utf8.proofs.width_four.Goals as goal

pub returns-then-not-second : goal.returns-then-not-second
unfolding sequence_of pick
returns-then-not-second c =
    let b = c.args.b in
    let h = c.requires in
    simp (le-ltb b 0x80 (omega arith), le-ltb b 0xC2 (omega arith), sym c.second.ensures ∙ not-true _ c.if-not-second.true-raw)

pub returns-then-not-later : goal.returns-then-not-later
unfolding sequence_of pick
returns-then-not-later c =
    let b = c.args.b in
    let h = c.requires in
    simp (le-ltb b 0x80 (omega arith), le-ltb b 0xC2 (omega arith), sym c.second.ensures ∙ not-false _ c.if-not-second.false-raw, le-ltb b 0xE0 (omega arith), sym c.later.ensures ∙ not-true _ c.if-not-later.true-raw)

pub returns-then-not-later-2 : goal.returns-then-not-later-2
unfolding sequence_of pick
returns-then-not-later-2 c =
    let b = c.args.b in
    let h = c.requires in
    simp (le-ltb b 0x80 (omega arith), le-ltb b 0xC2 (omega arith), sym c.second.ensures ∙ not-false _ c.if-not-second.false-raw, le-ltb b 0xE0 (omega arith), sym c.later.ensures ∙ not-false _ c.if-not-later.false-raw, le-ltb _ 0xF0 h, sym c.later-2.ensures ∙ not-true _ c.if-not-later-2.true-raw)

pub returns-then-b-lt245 : goal.returns-then-b-lt245
unfolding sequence_of pick
returns-then-b-lt245 c =
    let b = c.args.b in
    let h = c.requires in
    simp (le-ltb b 0x80 (omega arith), le-ltb b 0xC2 (omega arith), sym c.second.ensures ∙ not-false _ c.if-not-second.false-raw, le-ltb b 0xE0 (omega arith), sym c.later.ensures ∙ not-false _ c.if-not-later.false-raw, le-ltb _ 0xF0 h, sym c.later-2.ensures ∙ not-false _ c.if-not-later-2.false-raw, lt-ltb _ _ c.if-b-lt245.true)

pub returns-else-b-lt245 : goal.returns-else-b-lt245
unfolding sequence_of pick
returns-else-b-lt245 c =
    let b = c.args.b in
    let h = c.requires in
    simp (le-ltb b 0x80 (omega arith), le-ltb b 0xC2 (omega arith), sym c.second.ensures ∙ not-false _ c.if-not-second.false-raw, le-ltb b 0xE0 (omega arith), sym c.later.ensures ∙ not-false _ c.if-not-later.false-raw, le-ltb _ 0xF0 h, sym c.later-2.ensures ∙ not-false _ c.if-not-later-2.false-raw, le-ltb _ _ c.if-b-lt245.false)
