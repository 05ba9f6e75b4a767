-- `scan::name_count` meets its contract: it is the definition, call by call.
use Rattle.utf8.specs.Choice.{pick}
use Rattle.scan.specs.Counts.{name_count}
use Rattle.scan.proofs.name_count.Goals as goal

pub returns-then-is_empty : goal.returns-then-is_empty
unfolding name_count pick
returns-then-is_empty c = rw (← c.word-read.ensures, ← c.is_empty.ensures, c.if-is_empty.true)

pub returns-then-dollar : goal.returns-then-dollar
unfolding name_count pick
returns-then-dollar c =
    rw (← c.word-read.ensures, ← c.is_empty.ensures, c.if-is_empty.false, ← c.consume-dollar.ensures, c.if-dollar.true, ← c.span_between-span.ensures)

pub returns : goal.returns
unfolding name_count pick
returns c =
    rw (
      ← c.word-read.ensures,
      ← c.is_empty.ensures,
      c.if-is_empty.false,
      ← c.consume-dollar.ensures,
      c.if-dollar.false,
      ← c.chars_between.ensures.0,
    )
