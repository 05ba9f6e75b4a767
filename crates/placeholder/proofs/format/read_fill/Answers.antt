-- `placeholder::format::read_fill` meets its contract: it is the definition by what is seen; a character that is seen is within the
-- text, so the place past it fits.
use mathlib.Core.Path.{sym, ◌∙◌}
use native.Mathlib.Omega.{arith}
use Rattle.utf8.specs.CharLaws.{peeked}
use Rattle.utf8.specs.Choice.{pick}
use Rattle.placeholder.specs.Parts.{fill_read}
use Rattle.placeholder.proofs.format.read_fill.Goals as goal

pub overflow_add-past : goal.overflow_add-past
overflow_add-past c = let p = peeked _ _ (sym c.peek.ensures ∙ c.in-Some.is) in omega arith

pub returns-then-is_align : goal.returns-then-is_align
unfolding fill_read pick
returns-then-is_align c =
    rw (
      ← c.peek.ensures,
      c.in-Some.is,
      ← c.is_align.ensures,
      c.if-is_align.true,
      ← c.span_across-span.ensures,
    )

pub returns-else-is_align : goal.returns-else-is_align
unfolding fill_read pick
returns-else-is_align c =
    rw (← c.peek.ensures, c.in-Some.is, ← c.is_align.ensures, c.if-is_align.false)

pub returns-in_default : goal.returns-in_default
unfolding fill_read pick
returns-in_default c = rw (← c.peek.ensures, c.in_default.is)
