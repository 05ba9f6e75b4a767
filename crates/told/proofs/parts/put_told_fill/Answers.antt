-- `told::parts::put_told_fill` meets its contract: no fill where the places are the same, else the character at the first.
use borrow.Author.Tests.{eq-eqb, ne_eqb}
use Rattle.utf8.specs.Choice.{pick}
use Rattle.quick.specs.Tellings.{fill_of}
use Rattle.told.proofs.parts.put_told_fill.Goals as goal

pub returns-then-at-past : goal.returns-then-at-past
unfolding pick fill_of
returns-then-at-past c = rw (eq-eqb _ _ c.if-at-past.true) c.put4.ensures

pub returns : goal.returns
unfolding pick fill_of
returns c =
    rw (ne_eqb _ _ c.if-at-past.false, ← c.span_across-span.ensures, ← c.code_at.ensures, ← c.low.ensures, ← c.low-2.ensures) c.put4-2.ensures
