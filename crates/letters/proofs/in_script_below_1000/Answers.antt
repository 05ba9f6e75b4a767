-- `letters::in_script_below_1000` meets its contract: each range that it answers yes for is part of the starts. Assumes nothing.
use mathlib.Core.Path.{sym}
use mathlib.Core.Bool.{true≢false}
use native.Mathlib.Omega.{arith}
use borrow.Author.Tests.{leb-true}
use Rattle.letters.specs.TableLaws.{lo_at, hi_at, pairs}
use Rattle.letters.specs.Frequent.{frequent}
use Rattle.letters.specs.QuestionLaws.{frequent_range}
use Rattle.letters.proofs.in_script_below_1000.Goals as goal

pub returns-then-c-le1514 : goal.returns-then-c-le1514
unfolding frequent pairs lo_at hi_at
returns-then-c-le1514 c = λ y. frequent_range 5 _ (omega arith) (leb-true _ _ y) c.if-c-le1514.true

pub returns-then-c-lt1568 : goal.returns-then-c-lt1568
returns-then-c-lt1568 c = λ y. absurd (true≢false (sym y))

pub returns-then-c-lt2304 : goal.returns-then-c-lt2304
unfolding frequent pairs lo_at hi_at
returns-then-c-lt2304 c = λ y. frequent_range 6 _ (omega arith) c.if-c-lt1568.false (leb-true _ _ y)

pub returns-then-c-le2361 : goal.returns-then-c-le2361
unfolding frequent pairs lo_at hi_at
returns-then-c-le2361 c = λ y. frequent_range 7 _ (omega arith) (leb-true _ _ y) c.if-c-le2361.true

pub returns-then-c-lt3585 : goal.returns-then-c-lt3585
returns-then-c-lt3585 c = λ y. absurd (true≢false (sym y))

pub returns : goal.returns
unfolding frequent pairs lo_at hi_at
returns c = λ y. frequent_range 8 _ (omega arith) c.if-c-lt3585.false (leb-true _ _ y)
