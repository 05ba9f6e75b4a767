-- `letters::is_frequent` meets its contract: each range that it answers yes for is part of the starts. Assumes nothing.
use mathlib.Core.Path.{sym}
use mathlib.Core.Bool.{true≢false}
use borrow.Author.Tests.{leb-true, eqb-false, not-true}
use native.Mathlib.Omega.{arith}
use Rattle.letters.specs.TableLaws.{lo_at, hi_at, pairs}
use Rattle.letters.specs.Frequent.{frequent}
use Rattle.letters.specs.QuestionLaws.{frequent_range, latin_starts, greek_starts}
use Rattle.letters.proofs.is_frequent.Goals as goal

pub returns-then-c-le705 : goal.returns-then-c-le705
unfolding frequent pairs lo_at hi_at
returns-then-c-le705 c = λ _. frequent_range 2 _ (omega arith) c.if-c-ge248.true c.if-c-le705.true

pub returns-then-c-ge19968 : goal.returns-then-c-ge19968
unfolding frequent pairs lo_at hi_at
returns-then-c-ge19968 c = λ y. frequent_range 13 _ (omega arith) c.if-c-ge19968.true (leb-true _ _ y)

pub returns-then-c-lt931 : goal.returns-then-c-lt931
returns-then-c-lt931 c = λ y. absurd (true≢false (sym y))

pub returns-then-c-gt1153 : goal.returns-then-c-gt1153
returns-then-c-gt1153 c = λ y. absurd (true≢false (sym y))

pub returns-then-c-ge248 : goal.returns-then-c-ge248
returns-then-c-ge248 c = λ y. greek_starts _ c.if-c-lt931.false c.if-c-gt1153.false (eqb-false _ _ (not-true _ y))

pub returns-then-c-lt192 : goal.returns-then-c-lt192
returns-then-c-lt192 c = λ y. absurd (true≢false (sym y))

pub returns-then-c-eq-TIMES_SIGN : goal.returns-then-c-eq-TIMES_SIGN
returns-then-c-eq-TIMES_SIGN c = λ y. absurd (true≢false (sym y))

pub returns : goal.returns
returns c = λ y. latin_starts _ c.if-c-lt192.false c.if-c-ge248.false c.if-c-eq-TIMES_SIGN.false (eqb-false _ _ (not-true _ y))
