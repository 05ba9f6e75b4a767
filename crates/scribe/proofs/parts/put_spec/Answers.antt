-- `scribe::parts::put_spec` meets its contract: its marks and what follows them, and the colon before both.
use native.Mathlib.Omega.{arith}
use Rattle.plain.specs.Said.{said_spec}
use Rattle.scribe.specs.ScribeLaws.{spec_laid, spec_length}
use Rattle.scribe.proofs.parts.put_spec.Goals as goal

pub put_marks-k-requires : goal.put_marks-k-requires
put_marks-k-requires c =
    (omega (arith, c.requires.0, spec_length (said_spec c.args.text.now c.args.spec)), c.requires.1)

pub put_counts-k-requires : goal.put_counts-k-requires
put_counts-k-requires c =
    omega (arith, c.requires.0, spec_length (said_spec c.args.text.now c.args.spec), c.put_marks-k.ensures.place)

pub returns : goal.returns
returns c =
    let x = said_spec c.args.text.now c.args.spec in
    c.put_before.ensures _ _ (spec_laid x c.put_marks-k.ensures c.put_counts-k.ensures)
