-- `placeholder::between::argument` meets its contract: it is the definition, call by call; a spec takes at most one number, so the
-- place's number is within its limit.
use Prim.Native.Nat.{◌+◌, ◌≤◌}
use native.Mathlib.Omega.{arith}
use Rattle.placeholder.specs.Arguments.{argument_read}
use Rattle.placeholder.specs.BoundLaws.{spec_next}
use Rattle.placeholder.proofs.between.argument.Goals as goal

pub resolve-counted-requires : goal.resolve-counted-requires
resolve-counted-requires c =
    let args = c.args in
    let few : c.spec-read.result.next ≤ args.next + 1 =
    rw c.spec-read.ensures (spec_next args.text.now args.frame args.mode c.ws-to.result args.next) in
    omega (arith, c.requires.1)

pub returns : goal.returns
unfolding argument_read
returns c =
    rw (← c.position-placed.ensures, ← c.ws-to.ensures, ← c.spec-read.ensures, ← c.resolve-counted.ensures)
