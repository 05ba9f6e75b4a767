-- `spans::put_closed` meets its contract: one span where the brace is there, none where it is missing.
use Rattle.spans.proofs.Filling.{put_none, put_one}
use Rattle.spans.proofs.put_closed.Goals as goal

pub span_across-span-requires : goal.span_across-span-requires
span_across-span-requires c = c.requires.0

pub put_span-requires : goal.put_span-requires
put_span-requires c = rw c.in-Closed.is at c.requires.1

pub returns-in-Closed : goal.returns-in-Closed
returns-in-Closed c = rw c.in-Closed.is (put_one c.put_span.ensures c.span_across-span.ensures)

pub returns-in-Missing : goal.returns-in-Missing
returns-in-Missing c = rw c.in-Missing.is (put_none c.args.out.now c.args.n)
