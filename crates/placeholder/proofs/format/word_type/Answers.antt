-- `placeholder::format::word_type` meets its contract: it is the definition, call by call; an empty word has no span.
use Rattle.utf8.specs.Choice.{pick}
use Rattle.placeholder.specs.Types.{word_type}
use Rattle.placeholder.proofs.format.word_type.Goals as goal
use Rattle.placeholder.proofs.format.word_type.Goals.{then-is_empty, else-is_empty}

pub returns : goal.returns
unfolding word_type pick
returns c =
    elim c.if-is_empty.branch [
      | then-is_empty w ↦ rw (← c.word-read.ensures, ← c.is_empty.ensures, w.if-is_empty.true, w.span-is)
      | else-is_empty w ↦ rw (← c.word-read.ensures, ← c.is_empty.ensures, w.if-is_empty.false, w.span-is, ← w.span_between.ensures)
    ]
