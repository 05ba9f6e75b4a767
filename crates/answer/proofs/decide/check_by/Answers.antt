-- `answer::decide::check_by` meets its contract: what is known, with the characters counted; or the check.
use mathlib.Core.Path.{refl, ◌∙◌, ap}
use native.Mathlib.Omega.{arith}
use lib.ListN.{length}
use Rattle.utf8.specs.Choice.{pick}
use Rattle.utf8.specs.Chars.{chars_from}
use Rattle.utf8.specs.Utf8Laws.{valid_within}
use Rattle.utf8.specs.CountLaws.{all_before, all_passed}
use Rattle.answer.specs.Asking.{valid_by}
use Rattle.answer.proofs.decide.check_by.Goals as goal

pub returns-then-asked : goal.returns-then-asked
unfolding valid_by pick
returns-then-asked c =
    let t = c.args.text.now in
    (rw c.if-asked.true, λ _. c.chars_between-chars.ensures.0 ∙ ap length (all_before t (chars_from t 0) 0 (length t) refl (omega arith)))

pub returns : goal.returns
unfolding valid_by pick
returns c =
    let t = c.args.text.now in
    let e = c.check.ensures in
    (e.0 ∙ rw c.if-asked.false refl, λ l. e.1 ∙ all_passed t (omega (arith, valid_within t, e.0)))
