-- `letters::run_end` meets its contract. The invariant: for each test that the answers are those of, the run from `i` ends where the run
-- from `at` does, since each turn passes a character that passes and the loop stops at the first that does not, or at the end. The
-- measure is what is left of the text. Assumes nothing.
use Rattle.std.proofs.Common.{refl, sym, ◌∙◌, arith}
use Rattle.utf8.specs.CharLaws.{Peeked, peeked, run_more, run_stop, run_end_lem}
use Rattle.letters.proofs.run_end.Goals.{After-passes}
use Rattle.letters.proofs.run_end.Goals as goal

pub loop-seen-init : goal.loop-seen-init
loop-seen-init g c = λ test k. refl

-- the character at `i`
seen : (g : _) (c : After-passes g) → Peeked c.args.text.now c.loop-seen.i c.in-Some.seen.code c.in-Some.seen.width
seen g c = peeked _ _ (sym c.peek.ensures ∙ c.in-Some.is)

pub overflow_add-i : goal.overflow_add-i
overflow_add-i g c = let p = seen g (goal.at.overflow_add-i g c).After-passes in omega arith

pub loop-seen-smaller : goal.loop-seen-smaller
loop-seen-smaller g c = let p = seen g (goal.at.loop-seen-smaller g c).After-passes in omega arith

pub loop-seen-preserved : goal.loop-seen-preserved
loop-seen-preserved g c = λ test k.
    run_more test (seen g (goal.at.loop-seen-preserved g c).After-passes) (sym (k _ _ (omega arith) c.passes.ensures) ∙ c.if-not-passes.false) ∙ c.loop-seen.invariant test k

pub returns-then-not-passes : goal.returns-then-not-passes
returns-then-not-passes g c = λ test k.
    sym (run_stop test (seen g (goal.at.returns-then-not-passes g c).After-passes) (sym (k _ _ (omega arith) c.passes.ensures) ∙ c.if-not-passes.true)) ∙ c.loop-seen.invariant test k

pub returns : goal.returns
returns g c = λ test k. sym (run_end_lem test _ _ (sym c.peek.ensures ∙ c.in_default.is)) ∙ c.loop-seen.invariant test k
