-- `placeholder::format::format` meets its contract: it is the definition, part by part, each from where the one before it stood.
use Prim.Native.Nat.{◌≤◌}
use native.Mathlib.Omega.{arith}
use lib.ListN.{length}
use Rattle.placeholder.specs.Format.{format_read}
use Rattle.placeholder.specs.BoundLaws.{width_given, precision_given}
use Rattle.placeholder.proofs.format.format.Goals as goal

pub read_type-typed-requires : goal.read_type-typed-requires
read_type-typed-requires c =
    c.requires.0

-- each count gives back no more than the text has bytes
pub overflow_add-result : goal.overflow_add-result
overflow_add-result c =
    let args = c.args in
    let wide : c.read_width-wide.result.given ≤ length args.text.now =
    rw c.read_width-wide.ensures (width_given args.text.now args.frame c.consume-hash.result.at) in
    let precise : c.read_precision-precise.result.given ≤ length args.text.now =
    rw c.read_precision-precise.ensures (precision_given args.text.now args.frame c.read_width-wide.result.at args.next) in
    omega (arith, c.requires.0.text, wide, precise)

pub returns : goal.returns
unfolding format_read
returns c =
    rw (
      ← c.read_fill-filling.ensures,
      ← c.read_align-aligning.ensures,
      ← c.read_sign-signing.ensures,
      ← c.consume-hash.ensures,
      ← c.read_width-wide.ensures,
      ← c.read_precision-precise.ensures,
      ← c.read_type-typed.ensures,
    )
