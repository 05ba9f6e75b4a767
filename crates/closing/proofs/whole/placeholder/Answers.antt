-- `closing::whole::placeholder` meets its contract: it is the definition, call by call, with a closing brace and without one; an
-- argument takes at most two numbers, and gives back at most twice the text, so both are within the limits of what follows.
use borrow.Author.Tests.{not-true, not-false}
use native.Mathlib.Omega.{arith}
use Rattle.utf8.specs.Choice.{pick}
use Rattle.closing.specs.Wholes.{placeholder_read}
use Rattle.placeholder.specs.BoundLaws.{argument_next, argument_given}
use Rattle.closing.proofs.whole.placeholder.Goals as goal

pub missing-requires : goal.missing-requires
missing-requires c =
    let args = c.args in
    let few = argument_next args.text.now args.frame args.mode args.at args.next in
    let back = argument_given args.text.now args.frame args.mode args.at args.next in
    rw c.argument-read.ensures (c.requires.0, omega (arith, c.requires.1), omega (arith, c.requires.0.text, back))

pub returns-then-not-close : goal.returns-then-not-close
unfolding pick placeholder_read
returns-then-not-close c =
    rw (
      ← c.argument-read.ensures,
      ← c.ws-end.ensures,
      ← c.consume-close.ensures,
      not-true c.consume-close.result.ate c.if-not-close.true,
      ← c.missing.ensures,
    )

pub returns : goal.returns
unfolding pick placeholder_read
returns c =
    rw (
      ← c.argument-read.ensures,
      ← c.ws-end.ensures,
      ← c.consume-close.ensures,
      not-false c.consume-close.result.ate c.if-not-close.false,
      ← c.record_of.ensures,
      ← c.text_taken.ensures,
    )
