-- `quick::wide_fill` meets its contract: it is the definition by what is seen; a character that is seen is within the text.
use mathlib.Core.Path.{sym, ◌∙◌, ap}
use native.Mathlib.Omega.{arith}
use Rattle.utf8.specs.CharLaws.{peeked}
use Rattle.quick.specs.PartsTold.{align_byte}
use Rattle.quick.proofs.Parts.{fill_some, fill_none, fill_end}
use Rattle.quick.proofs.wide_fill.Goals as goal

pub overflow_add-at : goal.overflow_add-at
overflow_add-at c =
    let p = peeked _ _ (sym c.peek.ensures ∙ c.in-Some.is) in omega arith

pub overflow_add-result : goal.overflow_add-result
overflow_add-result c =
    let p = peeked _ _ (sym c.peek.ensures ∙ c.in-Some.is) in omega arith

pub returns-then-is_align : goal.returns-then-is_align
returns-then-is_align c =
    fill_some (sym c.peek.ensures ∙ c.in-Some.is)
    (ap align_byte (sym c.byte.ensures) ∙ sym c.is_align.ensures ∙ c.if-is_align.true)

pub returns-else-is_align : goal.returns-else-is_align
returns-else-is_align c =
    fill_none (sym c.peek.ensures ∙ c.in-Some.is)
    (ap align_byte (sym c.byte.ensures) ∙ sym c.is_align.ensures ∙ c.if-is_align.false)

pub returns-in-None : goal.returns-in-None
returns-in-None c =
    fill_end (sym c.peek.ensures ∙ c.in-None.is) c.requires.within
