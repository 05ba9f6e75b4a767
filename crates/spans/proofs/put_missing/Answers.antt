-- `spans::put_missing` meets its contract: only where the brace is missing is there such a text.
use mathlib.Core.List.{append-nil}
use Rattle.reading.specs.Lists.{gather}
use Rattle.spans.proofs.Lining.{lines_put_none}
use Rattle.spans.proofs.put_missing.Goals as goal

pub put_part-requires : goal.put_part-requires
unfolding gather
put_part-requires c = (c.requires.0, rw (c.in-Missing.is, append-nil) at c.requires.1)

pub returns-in-Closed : goal.returns-in-Closed
unfolding gather
returns-in-Closed c = rw c.in-Closed.is (lines_put_none c.args.frame c.args.run c.args.out.now)

pub returns-in-Missing : goal.returns-in-Missing
unfolding gather
returns-in-Missing c = rw (c.in-Missing.is, append-nil) c.put_part.ensures
