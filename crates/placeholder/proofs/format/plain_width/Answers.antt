-- `placeholder::format::plain_width` meets its contract: it is the definition, call by call; an implied width has no span.
use Rattle.utf8.specs.Choice.{pick}
use Rattle.placeholder.specs.Parts.{plain_width}
use Rattle.placeholder.proofs.format.plain_width.Goals as goal
use Rattle.placeholder.proofs.format.plain_width.Goals.{then-is_implied, else-is_implied}

pub returns : goal.returns
unfolding plain_width pick
returns c =
    elim c.if-is_implied.branch [
      | then-is_implied w ↦ rw (← c.count_at-read.ensures, ← c.is_implied.ensures, w.if-is_implied.true, w.span-is)
      | else-is_implied w ↦ rw (← c.count_at-read.ensures, ← c.is_implied.ensures, w.if-is_implied.false, w.span-is, ← w.span_between.ensures)
    ]
