-- `scan::brace_before` meets its contract. The invariant: the run of plain characters from `i` ends where the run from `at` does,
-- since each turn passes a byte that is no brace; the loop stops at one that is, at the end, or at the limit.
use Rattle.std.proofs.Common.{◌≡◌, ◌<◌, ◌≤◌, length, sym, refl, ◌∙◌, arith}
use Rattle.utf8.specs.CharLaws.{past_end, run_end_lem, byte_more, byte_stop}
use Rattle.utf8.specs.BlockLaws.{one_none, one_some}
use Rattle.scan.specs.Characters.{is_plain}
use Rattle.scan.specs.ScanLaws.{plain_high}
use Rattle.scan.proofs.brace_before.Goals as goal

pub loop-i-init : goal.loop-i-init
loop-i-init c = (refl, omega arith)

pub returns-then-plain-eq0 : goal.returns-then-plain-eq0
returns-then-plain-eq0 c =
    let n = one_none _ (sym c.plain.ensures.0 ∙ c.if-plain-eq0.true) in
    let stop = sym (byte_stop is_plain plain_high c.args.text.now _ (omega arith) n) in
    record { same_end = (c.loop-i.invariant.0, omega arith); found = λ _. stop ∙ c.loop-i.invariant.0 }

pub loop-i-preserved : goal.loop-i-preserved
loop-i-preserved c =
    let y = one_some _ (λ z. c.if-plain-eq0.false (c.plain.ensures.0 ∙ z)) in
    (byte_more is_plain plain_high c.args.text.now _ (omega arith) y ∙ c.loop-i.invariant.0, omega arith)

pub returns : goal.returns
returns c =
    let e : c.max.result ≡ c.loop-i.i = omega arith in
    let end : c.max.result < c.args.limit → length c.args.text.now ≤ c.max.result = λ l. omega arith in
    record {
      same_end = rw e (c.loop-i.invariant.0, omega arith);
      found = λ l. sym (run_end_lem is_plain _ _ (past_end c.args.text.now _ (end l))) ∙ rw e c.loop-i.invariant.0;
    }
