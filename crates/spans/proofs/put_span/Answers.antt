-- `spans::put_span` meets its contract: two numbers are set, the span's start and its end.
use native.Mathlib.Omega.{arith}
use lib.ListN.{length-set}
use Rattle.spans.proofs.Filling.{written_one}
use Rattle.spans.proofs.put_span.Goals as goal

pub bounds-out-n-2 : goal.bounds-out-n-2
bounds-out-n-2 c = simp length-set (omega arith)

pub returns : goal.returns
returns c = written_one c.args.out.now c.args.n c.args.span c.requires
