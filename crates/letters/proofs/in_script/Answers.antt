-- `letters::in_script` meets its contract: each range that it answers yes for is part of the starts. Assumes nothing.
use mathlib.Core.Path.{sym}
use mathlib.Core.Bool.{true≢false}
use native.Mathlib.Omega.{arith}
use borrow.Author.Tests.{leb-true}
use Rattle.letters.specs.TableLaws.{lo_at, hi_at, pairs}
use Rattle.letters.specs.Frequent.{frequent}
use Rattle.letters.specs.QuestionLaws.{frequent_range}
use Rattle.letters.proofs.in_script.Goals as goal

pub returns-then-c-lt4096 : goal.returns-then-c-lt4096
returns-then-c-lt4096 c = c.in_script_below_1000.ensures

pub returns-then-c-le4346 : goal.returns-then-c-le4346
unfolding frequent pairs lo_at hi_at
returns-then-c-le4346 c = λ y. frequent_range 9 _ (omega arith) (leb-true _ _ y) c.if-c-le4346.true

pub returns-then-c-lt7680 : goal.returns-then-c-lt7680
returns-then-c-lt7680 c = λ y. absurd (true≢false (sym y))

pub returns-then-c-lt12353 : goal.returns-then-c-lt12353
unfolding frequent pairs lo_at hi_at
returns-then-c-lt12353 c = λ y. frequent_range 10 _ (omega arith) c.if-c-lt7680.false (leb-true _ _ y)

pub returns-then-c-le12438 : goal.returns-then-c-le12438
unfolding frequent pairs lo_at hi_at
returns-then-c-le12438 c = λ y. frequent_range 11 _ (omega arith) c.if-c-lt12353.false c.if-c-le12438.true

pub returns-then-c-le12538 : goal.returns-then-c-le12538
unfolding frequent pairs lo_at hi_at
returns-then-c-le12538 c = λ y. frequent_range 12 _ (omega arith) (leb-true _ _ y) c.if-c-le12538.true

pub returns-then-c-lt44032 : goal.returns-then-c-lt44032
returns-then-c-lt44032 c = λ y. absurd (true≢false (sym y))

pub returns : goal.returns
unfolding frequent pairs lo_at hi_at
returns c = λ y. frequent_range 14 _ (omega arith) c.if-c-lt44032.false (leb-true _ _ y)
