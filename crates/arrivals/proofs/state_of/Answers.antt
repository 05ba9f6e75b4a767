-- `arrivals::state_of` meets its contract: each number is its field. Assumes nothing.
use mathlib.Core.Path.{ap}
use mathlib.Core.Bool.{Bool}
use lib.ListN.{get_or}
use Rattle.arrivals.specs.Calls.{state_of}
use Rattle.arrivals.proofs.state_of.Goals as goal

pub returns : goal.returns
unfolding state_of
returns c =
    let k = c.args.state.now in
    ap (λ (x : Bool). record { count = get_or k 0 0; valid = get_or k 1 0; over = x }) c.is_yes-over.ensures
