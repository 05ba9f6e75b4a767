-- `utf8::width_two` meets its contract: below E0 the second byte is any of 80 to BF, and each way out rewrites with its tests. Assumes nothing.
use borrow.Author.Tests.{lt-ltb, le-ltb}
use mathlib.Core.Path.{◌≡◌, sym, ◌∙◌}
use native.Mathlib.Omega.{arith}
use Rattle.utf8.specs.Choice.{pick, within}
use Rattle.utf8.specs.Utf8.{low, high, sequence_of}
use Rattle.utf8.specs.Utf8Laws.{low_other, high_other}
use Rattle.utf8.proofs.width_two.Goals.{After-later}
use Rattle.utf8.proofs.width_two.Goals as goal

pub returns-then-b-lt194 : goal.returns-then-b-lt194
unfolding sequence_of pick
returns-then-b-lt194 c =
    let h = c.requires in
    λ d e. simp (le-ltb _ _ h.0, lt-ltb _ _ c.if-b-lt194.true)

-- what the second byte is asked
asked : (c : After-later) → within c.args.c (low c.args.b) (high c.args.b) ≡ c.later.result
asked c =
    let h = c.requires in
    rw (low_other c.args.b (omega arith) (omega arith), high_other c.args.b (omega arith) (omega arith)) (sym c.later.ensures)

pub returns-then-later : goal.returns-then-later
unfolding sequence_of pick
returns-then-later c =
    let h = c.requires in
    λ d e. simp (le-ltb _ _ h.0, le-ltb _ _ c.if-b-lt194.false, asked (goal.at.returns-then-later c).After-later ∙ c.if-later.true, lt-ltb _ _ h.1)

pub returns-else-later : goal.returns-else-later
unfolding sequence_of pick
returns-else-later c =
    let h = c.requires in
    λ d e. simp (le-ltb _ _ h.0, le-ltb _ _ c.if-b-lt194.false, asked (goal.at.returns-else-later c).After-later ∙ c.if-later.false)
