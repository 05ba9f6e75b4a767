-- A part that passed the test is ordered and within the text, so it can be lent; else the empty part at the start is.
use mathlib.Core.Path.{sym, ◌∙◌}
use Rattle.utf8.specs.Choice.{pick}
use Rattle.reading.specs.Texts.{literal_text}
use Rattle.steps.proofs.TextLaws.{part_ordered, part_within}
use Rattle.steps.proofs.text.literal_text.Goals as goal

pub slice_bounds-result-count : goal.slice_bounds-result-count
slice_bounds-result-count c = part_ordered _ _ _ (sym c.is_part.ensures ∙ c.if-is_part.true)

pub slice_bounds-result-start : goal.slice_bounds-result-start
slice_bounds-result-start c = part_ordered _ _ _ (sym c.is_part.ensures ∙ c.if-is_part.true)

pub slice_bounds-result-end : goal.slice_bounds-result-end
slice_bounds-result-end c = part_within _ _ _ (sym c.is_part.ensures ∙ c.if-is_part.true)

pub returns-then-is_part : goal.returns-then-is_part
unfolding literal_text pick
returns-then-is_part c = rw (← c.is_part.ensures, c.if-is_part.true)

pub returns : goal.returns
unfolding literal_text pick
returns c = rw (← c.is_part.ensures, c.if-is_part.false)
