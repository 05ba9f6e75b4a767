-- `answer::decide::early` meets its contract: its tests are the definition's, in the same order.
use mathlib.Core.Path.{refl}
use borrow.Author.Tests.{lt-ltb, not-true, not-false}
use Rattle.utf8.specs.Choice.{pick}
use Rattle.laws.specs.Deciding.{early_number}
use Rattle.answer.proofs.Decisions.{residual, some_mode}
use Rattle.answer.proofs.decide.early.Goals as goal

pub returns-in_err-try_from : goal.returns-in_err-try_from
unfolding early_number pick
returns-in_err-try_from c = rw (residual _ c.from_residual.ensures.1, lt-ltb 2 _ c.in_err-try_from.ensures.1) refl

pub returns-then-not-is_styled : goal.returns-then-not-is_styled
unfolding early_number pick
returns-then-not-is_styled c =
    rw (
      some_mode _ c.in_ok-try_from.ensures,
      ← c.is_styled.ensures,
      not-true c.is_styled.result c.if-not-is_styled.true-raw,
    ) refl

pub returns-then-over : goal.returns-then-over
unfolding early_number pick
returns-then-over c =
    rw (
      some_mode _ c.in_ok-try_from.ensures,
      ← c.is_styled.ensures,
      not-false c.is_styled.result c.if-not-is_styled.false-raw,
      c.if-over.true,
    ) refl

pub returns-then-is_long : goal.returns-then-is_long
unfolding early_number pick
returns-then-is_long c =
    rw (
      some_mode _ c.in_ok-try_from.ensures,
      ← c.is_styled.ensures,
      not-false c.is_styled.result c.if-not-is_styled.false-raw,
      c.if-over.false,
      ← c.is_long.ensures,
      c.if-is_long.true,
    ) refl

pub returns : goal.returns
unfolding early_number pick
returns c =
    rw (
      some_mode _ c.in_ok-try_from.ensures,
      ← c.is_styled.ensures,
      not-false c.is_styled.result c.if-not-is_styled.false-raw,
      c.if-over.false,
      ← c.is_long.ensures,
      c.if-is_long.false,
    ) refl
