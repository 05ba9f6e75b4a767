-- `letters::continue_end` meets its contract: past the ASCII continuations the run stops at an ASCII character or at the end, and goes on at any
-- other. Assumes nothing.
use Rattle.std.proofs.Common.{sym, ◌∙◌, arith, rules}
use Rattle.letters.specs.AsciiLaws.{ascii_continue_lem}
use Rattle.letters.specs.Questions.{is_continue}
use Rattle.letters.proofs.Stops.{stop_at}
use Rattle.letters.proofs.continue_end.Goals as goal

pub returns-then-byte-lt128 : goal.returns-then-byte-lt128
returns-then-byte-lt128 c =
    let e = c.ascii_continue_end-i.ensures in
    sym (stop_at is_continue c.args.text.now _ (omega arith) (λ h. ascii_continue_lem _ (omega arith) ∙ e.stops h)) ∙ e.same_end

pub returns : goal.returns
returns c = c.run_end.ensures is_continue (λ x b _ k. search rules) ∙ c.ascii_continue_end-i.ensures.same_end
