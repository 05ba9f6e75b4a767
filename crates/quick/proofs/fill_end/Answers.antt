-- `quick::fill_end` meets its contract: an ASCII byte is its own character, and another is looked at as any.
use mathlib.Core.Path.{sym, ◌∙◌, ap}
use Rattle.utf8.specs.CharLaws.{past_end, ascii_char}
use Rattle.quick.specs.PartsTold.{align_byte}
use Rattle.quick.proofs.Parts.{fill_some, fill_none, fill_end}
use Rattle.quick.proofs.fill_end.Goals as goal

pub returns-then-text-at : goal.returns-then-text-at
returns-then-text-at c = let a = c.args in fill_end (past_end a.text.now a.at c.if-text-at.true) c.requires.within

pub returns-then-is_align : goal.returns-then-is_align
returns-then-is_align c =
    let a = c.args in
    fill_some (ascii_char a.text.now a.at c.if-text-at.false c.if-text-at-lt128.true) (ap align_byte (sym c.byte.ensures) ∙ sym c.is_align.ensures ∙ c.if-is_align.true)

pub returns-then-text-at-lt128 : goal.returns-then-text-at-lt128
returns-then-text-at-lt128 c =
    let a = c.args in
    fill_none (ascii_char a.text.now a.at c.if-text-at.false c.if-text-at-lt128.true) (ap align_byte (sym c.byte.ensures) ∙ sym c.is_align.ensures ∙ c.if-is_align.false)

pub wide_fill-requires : goal.wide_fill-requires
wide_fill-requires c = rw c.whole.ensures c.requires

pub returns : goal.returns
returns c = rw c.whole.ensures at c.wide_fill.ensures
