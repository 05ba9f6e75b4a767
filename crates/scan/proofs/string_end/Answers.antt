-- `scan::string_end` meets its contract: past the end there is no literal text; else the first brace within sixteen bytes, or the first
-- from past the blocks on, is where the run of plain characters ends.
use Rattle.std.proofs.Common.{sym, ap, ◌∙◌, arith}
use Rattle.utf8.specs.CharLaws.{past_end, run_end_lem}
use Rattle.frame.specs.Places.{place}
use Rattle.scan.specs.Characters.{is_plain, text_end}
use Rattle.scan.proofs.string_end.Goals as goal

pub returns-then-text-i : goal.returns-then-text-i
unfolding text_end
returns-then-text-i c =
    let a = c.args in
    sym (ap place (run_end_lem is_plain a.text.now a.at.0 (past_end a.text.now a.at.0 c.if-text-i.true)))

pub returns-then-near-i : goal.returns-then-near-i
unfolding text_end
returns-then-near-i c = ap place (c.brace_before-near.ensures.found c.if-near-i.true ∙ c.after_eight.ensures.0)

pub returns : goal.returns
unfolding text_end
returns c =
    let near = c.brace_before-near.ensures in
    let far = c.plain_blocks-from.ensures in
    ap place (c.brace_before.ensures.found (omega arith) ∙ far.0 ∙ near.same_end.0 ∙ c.after_eight.ensures.0)
