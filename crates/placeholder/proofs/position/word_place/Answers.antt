-- `placeholder::position::word_place` meets its contract: it is the definition for no word, for the word `r` and for any other.
use Rattle.utf8.specs.Choice.{pick}
use Rattle.placeholder.specs.Places.{word_place}
use Rattle.placeholder.proofs.position.word_place.Goals as goal

pub returns-then-is_empty : goal.returns-then-is_empty
unfolding word_place pick
returns-then-is_empty c =
    rw (← c.word-read.ensures, ← c.is_empty.ensures, c.if-is_empty.true)

pub returns-then-is_r : goal.returns-then-is_r
unfolding word_place pick
returns-then-is_r c =
    rw (
      ← c.word-read.ensures,
      ← c.is_empty.ensures,
      c.if-is_empty.false,
      ← c.is_r.ensures,
      c.if-is_r.true,
      ← c.raw_place.ensures,
    )

pub returns : goal.returns
unfolding word_place pick
returns c =
    rw (
      ← c.word-read.ensures,
      ← c.is_empty.ensures,
      c.if-is_empty.false,
      ← c.is_r.ensures,
      c.if-is_r.false,
    )
