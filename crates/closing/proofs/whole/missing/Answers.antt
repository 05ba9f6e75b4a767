-- `closing::whole::missing` meets its contract: it is the definition, call by call.
use Prim.Native.Nat.{◌*◌, ◌≤◌}
use native.Mathlib.Omega.{arith}
use lib.ListN.{length}
use Rattle.closing.specs.OnwardLaws.{recover_given}
use Rattle.closing.specs.Wholes.{missing_read}
use Rattle.closing.proofs.whole.missing.Goals as goal

pub record_of-requires : goal.record_of-requires
record_of-requires c = c.requires.0

-- a field gives back no more than twice the text's bytes
pub overflow_add-result : goal.overflow_add-result
overflow_add-result c =
    let args = c.args in
    let few : c.recover-on.result.given ≤ 2 * length args.text.now =
    rw c.recover-on.ensures (recover_given args.text.now args.frame args.mode args.read.from c.is_identifier-identifier.result args.at args.read.next) in
    omega (arith, c.requires.0.text, c.requires.2, few)

pub returns : goal.returns
unfolding missing_read
returns c =
    rw (
      ← c.past.ensures,
      ← c.because_of-why.ensures,
      ← c.gap_at-gap.ensures,
      ← c.is_identifier-identifier.ensures,
      ← c.recover-on.ensures,
      ← c.record_of.ensures,
      ← c.text_taken.ensures,
    )
