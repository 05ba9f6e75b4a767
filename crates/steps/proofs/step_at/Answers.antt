-- `steps::step_at` meets its contract: it is the definition, case by case: past the end, at `{`, at `}`, at anything else.
use borrow.Author.Tests.{lt-ltb, le-ltb}
use Rattle.utf8.specs.Choice.{pick}
use Rattle.reading.specs.Steps.{step_at}
use Rattle.steps.proofs.step_at.Goals as goal

pub returns-then-text-at : goal.returns-then-text-at
unfolding pick step_at
returns-then-text-at c = rw (le-ltb _ _ c.if-text-at.true)

pub after_open-requires : goal.after_open-requires
after_open-requires c = c.requires

pub returns-then-open : goal.returns-then-open
unfolding pick step_at
returns-then-open c =
    rw (
      lt-ltb _ _ c.if-text-at.false,
      ← c.consume-open.ensures,
      c.if-open.true,
      ← c.after_open.ensures,
    )

pub returns-then-close : goal.returns-then-close
unfolding pick step_at
returns-then-close c =
    rw (
      lt-ltb _ _ c.if-text-at.false,
      ← c.consume-open.ensures,
      c.if-open.false,
      ← c.consume-close.ensures,
      c.if-close.true,
      ← c.after_close.ensures,
    )

pub returns : goal.returns
unfolding pick step_at
returns c =
    rw (
      lt-ltb _ _ c.if-text-at.false,
      ← c.consume-open.ensures,
      c.if-open.false,
      ← c.consume-close.ensures,
      c.if-close.false,
      ← rw c.whole.ensures at c.string_end-end.ensures,
    )
