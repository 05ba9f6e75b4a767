-- `flawless::write_with_spec` meets its contract: the spec after the colon ends at the closing brace; then the head before the spec.
use native.Mathlib.Omega.{arith}
use mathlib.Core.Path.{refl}
use Prim.Native.Nat.{◌*◌}
use Rattle.quick.proofs.Bytes.{room_past}
use Rattle.told.proofs.Spoiling.{spoilt_wide}
use Rattle.told.proofs.Telling.{spec_told_lem, spoilt_whole}
use Rattle.flawless.proofs.Closing.{spec_tells, spec_flawless}
use Rattle.flawless.proofs.write_with_spec.Goals as goal

pub write_spec-requires : goal.write_spec-requires
write_spec-requires c = let p = c.requires in (p.0, room_past p.1 p.2 (omega arith), omega (arith, p.7))

pub returns-in_err-spec : goal.returns-in_err-spec
returns-in_err-spec c = (spoilt_wide c.write_spec.ensures.0 (omega arith) (omega arith), rw c.from_residual.ensures tt)

pub put_told_head-requires : goal.put_told_head-requires
put_told_head-requires c =
    let p = c.requires in
    (p.0, p.1.within, p.5, omega (arith, p.7, c.write_spec.auto.out))

pub returns : goal.returns
returns c =
    let a = c.args in
    let p = c.requires in
    let w = c.in_ok-spec.ensures.1 in
    let wrote =
    spec_told_lem a.text.now a.frame a.brace _ a.next a.out.now (40 * a.n) p.7 refl w.wrote (rw c.after_star.ensures at c.put_told_head.ensures) in (
      spoilt_whole a.text.now a.frame a.brace _ a.next a.out.now (40 * a.n) p.7 wrote,
      record { put = record { tells = spec_tells p.3 p.4 w.ends p.2 w.known; wrote = wrote }; flawless = spec_flawless p.3 p.4 w.ends },
    )
