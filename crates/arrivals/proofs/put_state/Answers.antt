-- `arrivals::put_state` meets its contract: three numbers are set, one after the other. Assumes nothing.
use native.Mathlib.Omega.{arith}
use lib.ListN.{length-set}
use Rattle.arrivals.proofs.Sending.{three}
use Rattle.arrivals.proofs.put_state.Goals as goal

pub bounds-out-1 : goal.bounds-out-1
bounds-out-1 c = simp length-set (omega arith)

pub bounds-out-2 : goal.bounds-out-2
bounds-out-2 c = simp length-set (omega arith)

pub returns : goal.returns
returns c = let a = c.args in three a.out.now a.state c.marked.ensures c.requires
