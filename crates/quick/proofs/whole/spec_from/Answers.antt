-- `quick::whole::spec_from` meets its contract: behind a colon the spec is told, else there is none.
use native.Mathlib.Omega.{arith}
use Rattle.quick.proofs.Bytes.{room_past}
use Rattle.quick.proofs.Wholes.{either_told, either_none}
use Rattle.quick.proofs.whole.spec_from.Goals as goal

pub tell_spec-requires : goal.tell_spec-requires
tell_spec-requires c = let p = c.requires in room_past p.0 (p.1 c.if-colon.true) (omega arith)

pub returns-then-colon : goal.returns-then-colon
returns-then-colon c = either_told _ _ _ c.if-colon.true c.tell_spec.ensures

pub returns : goal.returns
returns c = either_none c.if-colon.false c.no_spec.ensures
