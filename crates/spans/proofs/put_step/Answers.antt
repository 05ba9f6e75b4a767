-- `spans::put_step` meets its contract: a literal's text, or a placeholder's and that passed where its brace is missing, in order.
use mathlib.Core.List.{append-nil}
use mathlib.Core.Logic.{inl, inr}
use Rattle.reading.specs.Lines.{chars_in}
use Rattle.reading.specs.Lists.{gather, missing_text}
use Rattle.spans.proofs.Lining.{lines_put_none, join_first, join_second, join}
use Rattle.spans.proofs.put_step.Goals as goal

pub put_part-requires : goal.put_part-requires
unfolding gather
put_part-requires c = (c.requires.0, rw (c.in-Literal.is, append-nil) at c.requires.1)

pub put_part-on-requires : goal.put_part-on-requires
unfolding gather
put_part-on-requires c =
    let a = c.args in (
      c.requires.0,
      join_first a.frame a.run a.out.now (chars_in a.text.now c.in-Placeholder.read.text)
          (gather (chars_in a.text.now) (missing_text c.in-Placeholder.read.closing)) (rw c.in-Placeholder.is at c.requires.1),
    )

pub put_missing-requires : goal.put_missing-requires
unfolding gather
put_missing-requires c =
    let a = c.args in (
      c.requires.0,
      join_second a.frame a.run a.out.now (chars_in a.text.now c.in-Placeholder.read.text)
          (gather (chars_in a.text.now) (missing_text c.in-Placeholder.read.closing)) (rw c.in-Placeholder.is at c.requires.1) c.put_part-on.ensures,
    )

pub returns-in-Literal : goal.returns-in-Literal
unfolding gather
returns-in-Literal c = rw (c.in-Literal.is, append-nil) c.put_part.ensures

pub returns-in-Placeholder : goal.returns-in-Placeholder
unfolding gather
returns-in-Placeholder c =
    let a = c.args in
    rw c.in-Placeholder.is
    (join a.frame a.run a.out.now (chars_in a.text.now c.in-Placeholder.read.text)
    (gather (chars_in a.text.now) (missing_text c.in-Placeholder.read.closing)) (rw c.in-Placeholder.is at c.requires.1) c.put_part-on.ensures
    c.put_missing.ensures)

pub returns-in-End : goal.returns-in-End
unfolding gather
returns-in-End c =
    let none = lines_put_none c.args.frame c.args.run c.args.out.now in
    elim c.in-End.is [ inl e ↦ rw e none | inr e ↦ rw e.1 none ]
