-- `literal::end_by_fours` meets its contract: four bytes after four, and from the sixteenth on by a call.
use mathlib.Core.Path.{◌∙◌, ap}
use native.Mathlib.Omega.{arith}
use Rattle.frame.specs.Places.{place}
use Rattle.scan.specs.Characters.{text_end}
use Rattle.literal.proofs.Literals.{plain_four}
use Rattle.literal.proofs.end_by_fours.Goals as goal

pub returns-then-n-lt4 : goal.returns-then-n-lt4
unfolding text_end
returns-then-n-lt4 c =
    ap place
    (c.plain_of_four-n.ensures.found c.if-n-lt4.true)

pub returns-then-n-lt4-2 : goal.returns-then-n-lt4-2
unfolding text_end
returns-then-n-lt4-2 c =
    ap place
    (c.plain_of_four-n-2.ensures.found c.if-n-lt4-2.true
    ∙ plain_four _ _ _ _ c.plain_of_four-n.ensures.same_end c.if-n-lt4.false (omega arith))

pub returns-then-n-lt4-3 : goal.returns-then-n-lt4-3
unfolding text_end
returns-then-n-lt4-3 c =
    ap place
    (c.plain_of_four-n-3.ensures.found c.if-n-lt4-3.true
    ∙ plain_four _ _ _ _ c.plain_of_four-n-2.ensures.same_end c.if-n-lt4-2.false (omega arith)
    ∙ plain_four _ _ _ _ c.plain_of_four-n.ensures.same_end c.if-n-lt4.false (omega arith))

pub returns-then-n-lt4-4 : goal.returns-then-n-lt4-4
unfolding text_end
returns-then-n-lt4-4 c =
    ap place
    (c.plain_of_four-n-4.ensures.found c.if-n-lt4-4.true
    ∙ plain_four _ _ _ _ c.plain_of_four-n-3.ensures.same_end c.if-n-lt4-3.false (omega arith)
    ∙ plain_four _ _ _ _ c.plain_of_four-n-2.ensures.same_end c.if-n-lt4-2.false (omega arith)
    ∙ plain_four _ _ _ _ c.plain_of_four-n.ensures.same_end c.if-n-lt4.false (omega arith))

pub returns : goal.returns
unfolding text_end
returns c =
    rw c.whole.ensures at c.string_end.ensures
    ∙ ap place
    (plain_four _ _ _ _ c.plain_of_four-n-4.ensures.same_end c.if-n-lt4-4.false (omega arith)
    ∙ plain_four _ _ _ _ c.plain_of_four-n-3.ensures.same_end c.if-n-lt4-3.false (omega arith)
    ∙ plain_four _ _ _ _ c.plain_of_four-n-2.ensures.same_end c.if-n-lt4-2.false (omega arith)
    ∙ plain_four _ _ _ _ c.plain_of_four-n.ensures.same_end c.if-n-lt4.false (omega arith))
