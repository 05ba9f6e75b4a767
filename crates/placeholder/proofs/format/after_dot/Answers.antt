-- `placeholder::format::after_dot` meets its contract: it is the definition, call by call; a star's number is below the limit, so the
-- next one fits.
use Rattle.utf8.specs.Choice.{pick}
use Rattle.placeholder.specs.Parts.{after_dot}
use Rattle.placeholder.proofs.format.after_dot.Goals as goal

pub returns-then-star : goal.returns-then-star
unfolding after_dot pick
returns-then-star c =
    rw (← c.consume-star.ensures, c.if-star.true, ← c.span_between.ensures)

pub returns : goal.returns
unfolding after_dot pick
returns c =
    rw (
      ← c.consume-star.ensures,
      c.if-star.false,
      ← c.count_at-read.ensures,
      ← c.span_between-2.ensures,
    )
