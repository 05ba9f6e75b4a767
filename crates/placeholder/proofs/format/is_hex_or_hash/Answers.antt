-- `placeholder::format::is_hex_or_hash` meets its contract: it is the definition, test by test.
use Rattle.utf8.specs.Choice.{pick}
use Rattle.placeholder.specs.Types.{is_hex_or_hash}
use Rattle.placeholder.proofs.format.is_hex_or_hash.Goals as goal
use Rattle.placeholder.proofs.format.is_hex_or_hash.Goals.{then-peek_is, else-peek_is}

pub returns-then-peek_is-2 : goal.returns-then-peek_is-2
unfolding is_hex_or_hash pick
returns-then-peek_is-2 c =
    elim c.if-peek_is.branch [
      | then-peek_is w ↦ rw (w.value-is, ← c.peek_is.ensures, w.if-peek_is.true)
      | else-peek_is w ↦
          rw (
            ← c.peek_is.ensures,
            w.if-peek_is.false,
            ← w.peek_is-else-peek_is.ensures,
            ← w.value-is,
            c.if-peek_is-2.true,
          )
    ]

pub returns-else-peek_is-2 : goal.returns-else-peek_is-2
unfolding is_hex_or_hash pick
returns-else-peek_is-2 c =
    elim c.if-peek_is.branch [
      | then-peek_is w ↦ let h = w.value-is in let g = c.if-peek_is-2.false in cc
      | else-peek_is w ↦
          rw (
            ← c.peek_is.ensures,
            w.if-peek_is.false,
            ← w.peek_is-else-peek_is.ensures,
            ← w.value-is,
            c.if-peek_is-2.false,
            ← c.peek_is-else-peek_is-2.ensures,
          )
    ]
