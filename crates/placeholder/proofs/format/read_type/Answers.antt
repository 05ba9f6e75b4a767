-- `placeholder::format::read_type` meets its contract: it is the definition, sign by sign and then the word.
use Rattle.utf8.specs.Choice.{pick}
use Rattle.placeholder.specs.Types.{type_read}
use Rattle.placeholder.proofs.format.read_type.Goals as goal

pub returns-then-lower : goal.returns-then-lower
unfolding type_read pick
returns-then-lower c =
    rw (← c.consume-lower.ensures, c.if-lower.true, ← c.hex_type.ensures)

pub returns-then-upper : goal.returns-then-upper
unfolding type_read pick
returns-then-upper c =
    rw (
      ← c.consume-lower.ensures,
      c.if-lower.false,
      ← c.consume-upper.ensures,
      c.if-upper.true,
      ← c.hex_type-then-upper.ensures,
    )

pub returns-then-debug : goal.returns-then-debug
unfolding type_read pick
returns-then-debug c =
    rw (
      ← c.consume-lower.ensures,
      c.if-lower.false,
      ← c.consume-upper.ensures,
      c.if-upper.false,
      ← c.consume-debug.ensures,
      c.if-debug.true,
      ← c.debug_type.ensures,
    )

pub returns : goal.returns
unfolding type_read pick
returns c =
    rw (
      ← c.consume-lower.ensures,
      c.if-lower.false,
      ← c.consume-upper.ensures,
      c.if-upper.false,
      ← c.consume-debug.ensures,
      c.if-debug.false,
      ← c.word_type.ensures,
    )
