-- `scribe::parts::put_marks` meets its contract: five parts, one after the other.
use mathlib.Core.Path.{ap}
use native.Mathlib.Omega.{arith}
use lib.ListN.{length}
use Rattle.pen.proofs.Laying.{laid_on}
use Rattle.plain.specs.Said.{said_spec}
use Rattle.scribe.specs.ScribeLaws.{marks_length}
use Rattle.scribe.proofs.parts.put_marks.Goals as goal

pub put_fill-k-requires : goal.put_fill-k-requires
put_fill-k-requires c =
    (omega (arith, c.requires.0, marks_length (said_spec c.args.text.now c.args.spec)), c.requires.1)

pub put_mark-k-requires : goal.put_mark-k-requires
put_mark-k-requires c =
    omega (arith, c.requires.0, marks_length (said_spec c.args.text.now c.args.spec), ap length c.align_mark.ensures, c.put_fill-k.ensures.place)

pub put_mark-k-requires-2 : goal.put_mark-k-requires-2
put_mark-k-requires-2 c =
    omega (
      arith,
      c.requires.0,
      marks_length (said_spec c.args.text.now c.args.spec),
      ap length c.align_mark.ensures,
      ap length c.sign_mark.ensures,
      c.put_mark-k.ensures.place,
      c.put_fill-k.ensures.place,
    )

pub put_mark-k-requires-3 : goal.put_mark-k-requires-3
put_mark-k-requires-3 c =
    omega (
      arith,
      c.requires.0,
      marks_length (said_spec c.args.text.now c.args.spec),
      ap length c.align_mark.ensures,
      ap length c.sign_mark.ensures,
      ap length c.flag_mark.ensures,
      c.put_mark-k-2.ensures.place,
      c.put_mark-k.ensures.place,
      c.put_fill-k.ensures.place,
    )

pub put_mark-requires : goal.put_mark-requires
put_mark-requires c =
    omega (
      arith,
      c.requires.0,
      marks_length (said_spec c.args.text.now c.args.spec),
      ap length c.align_mark.ensures,
      ap length c.sign_mark.ensures,
      ap length c.flag_mark.ensures,
      ap length c.flag_mark-2.ensures,
      c.put_mark-k-3.ensures.place,
      c.put_mark-k-2.ensures.place,
      c.put_mark-k.ensures.place,
      c.put_fill-k.ensures.place,
    )

pub returns : goal.returns
returns c =
    laid_on _ _ c.put_fill-k.ensures
    (laid_on _ _ (rw c.align_mark.ensures at c.put_mark-k.ensures)
    (laid_on _ _ (rw c.sign_mark.ensures at c.put_mark-k-2.ensures)
    (laid_on _ _ (rw c.flag_mark.ensures at c.put_mark-k-3.ensures) (rw c.flag_mark-2.ensures at c.put_mark.ensures))))
