-- `fills::run::fill` meets its contract: where no record goes to the front the first run has written all, else the second has.
use native.Mathlib.Omega.{arith}
use Rattle.laws.specs.RoomLaws.{few_errors}
use Rattle.fills.proofs.Running.{first_fronts, first_errors, filled_once, filled_twice}
use Rattle.fills.proofs.run.fill.Goals.{then-first-gt0, else-first-gt0}
use Rattle.fills.proofs.run.fill.Goals as goal

pub run-requires : goal.run-requires
run-requires c =
    let a = c.args in
    let first = c.run-first in (
      c.requires.0,
      omega (arith, c.requires.1, first.auto.pieces),
      omega (arith, c.requires.2, first.auto.errors),
      omega (arith, first_fronts a.text.now a.frame a.mode c.requires.2 first.ensures.0),
    )

pub overflow_add-result : goal.overflow_add-result
overflow_add-result c =
    let a = c.args in
    let first = c.run-first in
    omega (
      arith,
      c.requires.0.text,
      few_errors a.text.now a.frame a.mode,
      first_errors a.text.now a.frame a.mode c.requires.2 first.ensures.0,
    )

pub returns : goal.returns
returns c =
    let a = c.args in
    let first = c.run-first in
    elim c.if-first-gt0.branch [
      | then-first-gt0 w ↦
          rw (w.pieces-is, w.errors-is)
          (filled_twice a.text.now a.frame a.mode c.requires.2 first.ensures.0 w.run.ensures.0 first.auto.errors first.ensures.1)
      | else-first-gt0 w ↦
          rw (w.pieces-is, w.errors-is)
          (filled_once a.text.now a.frame a.mode c.requires.2 first.ensures.0 first.ensures.1 (omega (arith, w.if-first-gt0.false)))
    ]
