-- `tally::newlines_in` meets its contract. The invariant: the newlines counted and those from `i` on are those of the part, and
-- there are no more of them than bytes passed. The measure is what is left of the part.
use mathlib.Core.Path.{◌≡◌, sym, ◌∙◌, ap}
use native.Mathlib.Omega.{arith}
use Rattle.utf8.specs.Utf8.{char, peek_at}
use Rattle.utf8.specs.CharLaws.{peeked, before_past, before_end}
use Rattle.reading.specs.Lines.{chars_in, newlines}
use Rattle.laws.specs.LineLaws.{newlines_one, newlines_other}
use Rattle.tally.proofs.newlines_in.Goals.{In-Some}
use Rattle.tally.proofs.newlines_in.Goals.{then-seen-eq10, else-seen-eq10}
use Rattle.tally.proofs.newlines_in.Goals as goal
use Rattle.std.specs.Prelude.{Some}

-- the character at `i`
seen : (c : In-Some) →
    peek_at c.args.text.now c.loop-i.i ≡
    Some (char c.in-Some.seen.code c.in-Some.seen.width)
seen c = sym c.peek.ensures ∙ c.in-Some.is

pub overflow_add-n : goal.overflow_add-n
overflow_add-n c = let p = peeked _ _ (seen (goal.at.overflow_add-n c).In-Some) in omega arith

pub overflow_add-i : goal.overflow_add-i
overflow_add-i c = let p = peeked _ _ (seen (goal.at.overflow_add-i c).In-Some) in omega arith

pub loop-i-smaller : goal.loop-i-smaller
loop-i-smaller c = let p = peeked _ _ (seen (goal.at.loop-i-smaller c).In-Some) in omega arith

pub loop-i-preserved : goal.loop-i-preserved
loop-i-preserved c =
    let inside = c.loop-i-test.true in
    let s = seen (goal.at.loop-i-preserved c).In-Some in
    let p = peeked _ _ s in
    elim c.if-seen-eq10.branch [
      | then-seen-eq10 w ↦ omega (arith, newlines_one _ _ _ inside s w.if-seen-eq10.true)
      | else-seen-eq10 w ↦ omega (arith, newlines_other _ _ _ inside s w.if-seen-eq10.false)
    ]

pub returns-in_default : goal.returns-in_default
unfolding chars_in newlines
returns-in_default c =
    let end = c.args.part.end.0 in
    omega (arith, ap newlines (before_end _ end _ (sym c.peek.ensures ∙ c.in_default.is)))

pub returns : goal.returns
unfolding chars_in newlines
returns c = omega (arith, ap newlines (before_past c.args.text.now _ _ c.loop-i-test.false))
