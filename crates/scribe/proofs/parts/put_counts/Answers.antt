-- `scribe::parts::put_counts` meets its contract: four parts, one after the other.
use mathlib.Core.Path.{ap}
use native.Mathlib.Omega.{arith}
use lib.ListN.{length}
use Rattle.pen.proofs.Laying.{laid_on}
use Rattle.plain.specs.Said.{said_spec}
use Rattle.plain.specs.Plain.{plain_count}
use Rattle.scribe.specs.ScribeLaws.{after_length, counts_length}
use Rattle.scribe.proofs.parts.put_counts.Goals as goal

pub put_count-k-requires : goal.put_count-k-requires
put_count-k-requires c =
    let x = said_spec c.args.text.now c.args.spec in
    omega (arith, c.requires, counts_length x, after_length 0x2E (plain_count x.precision))

pub put_precision-k-requires : goal.put_precision-k-requires
put_precision-k-requires c =
    let x = said_spec c.args.text.now c.args.spec in
    omega (arith, c.requires, counts_length x, after_length 0x2E (plain_count x.precision), c.put_count-k.ensures.place)

pub put_mark-k-requires : goal.put_mark-k-requires
put_mark-k-requires c =
    let x = said_spec c.args.text.now c.args.spec in
    omega (
      arith,
      c.requires,
      counts_length x,
      after_length 0x2E (plain_count x.precision),
      ap length c.hex_mark.ensures,
      c.put_precision-k.ensures.place,
      c.put_count-k.ensures.place,
    )

pub put_range-requires : goal.put_range-requires
put_range-requires c =
    let x = said_spec c.args.text.now c.args.spec in
    omega (
      arith,
      c.requires,
      counts_length x,
      after_length 0x2E (plain_count x.precision),
      ap length c.hex_mark.ensures,
      c.put_mark-k.ensures.place,
      c.put_precision-k.ensures.place,
      c.put_count-k.ensures.place,
    )

pub returns : goal.returns
returns c =
    laid_on _ _ c.put_count-k.ensures
    (laid_on _ _ c.put_precision-k.ensures (laid_on _ _ (rw c.hex_mark.ensures at c.put_mark-k.ensures) c.put_range.ensures))
