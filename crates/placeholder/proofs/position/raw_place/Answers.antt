-- `placeholder::position::raw_place` meets its contract: it is the definition with `#` and a word, with `#` alone, and with neither.
use Rattle.utf8.specs.Choice.{pick}
use Rattle.placeholder.specs.Places.{raw_place}
use Rattle.placeholder.proofs.position.raw_place.Goals as goal
use Rattle.placeholder.proofs.position.raw_place.Goals.{then-hash+else-not-is_empty, else-hash}

pub returns-then-not-is_empty : goal.returns-then-not-is_empty
unfolding raw_place pick
returns-then-not-is_empty c =
    rw (
      ← c.consume-hash.ensures,
      ← c.word-read.ensures,
      c.if-hash.true,
      ← c.is_empty.ensures,
      c.if-not-is_empty.true,
    )

pub returns : goal.returns
unfolding raw_place pick
returns c =
    elim c.if-hash.branch [
      | then-hash+else-not-is_empty w ↦
          rw (
            ← c.consume-hash.ensures,
            ← w.word-read.ensures,
            w.if-hash.true,
            ← w.is_empty.ensures,
            w.if-not-is_empty.false,
          )
      | else-hash w ↦ rw (← c.consume-hash.ensures, w.if-hash.false)
    ]
