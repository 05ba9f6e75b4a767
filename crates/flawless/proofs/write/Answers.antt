-- `flawless::write` meets its contract: the place, and then a colon with its spec, or the closing brace.
use native.Mathlib.Omega.{arith}
use mathlib.Core.Path.{refl, sym, ◌∙◌}
use Prim.Native.Nat.{◌*◌}
use Rattle.quick.proofs.Wholes.{place_ends}
use Rattle.passing.proofs.Afters.{star_none}
use Rattle.told.proofs.Telling.{bare_told, spoilt_whole}
use Rattle.flawless.proofs.Closing.{no_gap, bare_tells, bare_flawless}
use Rattle.flawless.proofs.write.Goals as goal

pub returns-in_err-place : goal.returns-in_err-place
returns-in_err-place c = (record { gone = λ j ws p q r. refl }, rw c.from_residual.ensures tt)

pub write_with_spec-requires : goal.write_with_spec-requires
write_with_spec-requires c =
    let p = c.requires in
    let e = sym c.byte-b.ensures ∙ c.if-b-eq58.true in
    let s = c.in_ok-place.ensures in (
      p.0,
      record { within = s.0.inside; small = p.0.text },
      e,
      place_ends s.0 (no_gap _ _ 0x3A e (omega arith) (omega arith)),
      s.1,
      omega (arith, p.0.text, p.1),
      p.2,
      p.3,
    )

pub returns-then-b-ne125 : goal.returns-then-b-ne125
returns-then-b-ne125 c = (record { gone = λ j ws p q r. refl }, tt)

pub put_bare-requires : goal.put_bare-requires
put_bare-requires c =
    let p = c.requires in
    (p.0, c.in_ok-place.ensures.0.inside, omega (arith, p.0.text, p.1), p.3)

pub returns : goal.returns
returns c =
    let a = c.args in
    let p = c.requires in
    let e = sym c.byte-b.ensures ∙ c.if-b-ne125.false in
    let s = c.in_ok-place.ensures in
    let ends = place_ends s.0 (no_gap _ _ 0x7D e (omega arith) (omega arith)) in
    let z = c.no_spec.ensures in
    let wrote = bare_told a.text.now a.frame a.brace _ a.next a.out.now (40 * a.n) p.3 refl (rw (star_none a.next z.precise) c.put_bare.ensures) in (
      spoilt_whole a.text.now a.frame a.brace _ a.next a.out.now (40 * a.n) p.3 wrote,
      record { put = record { tells = bare_tells ends s.1 z e; wrote = wrote }; flawless = bare_flawless ends s.1 z e },
    )
