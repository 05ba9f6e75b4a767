-- `scribe::parts::put_argument` meets its contract: four parts, one after the other.
use mathlib.Core.List.{[], ◌∷◌}
use native.Mathlib.Omega.{arith}
use Rattle.pen.proofs.Laying.{laid_on}
use Rattle.plain.specs.Said.{said_spec}
use Rattle.plain.specs.Plain.{plain_spec}
use Rattle.scribe.specs.ScribeLaws.{after_length, argument_length}
use Rattle.scribe.proofs.parts.put_argument.Goals as goal

pub put_byte-k-requires : goal.put_byte-k-requires
put_byte-k-requires c =
    omega (arith, c.requires.0, argument_length c.args.text.now c.args.argument)

pub put_place-k-requires : goal.put_place-k-requires
put_place-k-requires c =
    omega (arith, c.requires.0, argument_length c.args.text.now c.args.argument, c.put_byte-k.ensures.place)

pub put_spec-k-requires : goal.put_spec-k-requires
put_spec-k-requires c =
    (omega (arith, c.requires.0, argument_length c.args.text.now c.args.argument, after_length 0x3A (plain_spec (said_spec c.args.text.now c.args.argument.spec)), c.put_place-k.ensures.place, c.put_byte-k.ensures.place), c.requires.1)

pub put_byte-requires : goal.put_byte-requires
put_byte-requires c =
    omega (arith, c.requires.0, argument_length c.args.text.now c.args.argument, c.put_spec-k.ensures.place, c.put_place-k.ensures.place, c.put_byte-k.ensures.place)

pub returns : goal.returns
returns c =
    laid_on (0x7B ∷ []) _ c.put_byte-k.ensures (laid_on _ _ c.put_place-k.ensures (laid_on _ _ c.put_spec-k.ensures c.put_byte.ensures))
