-- `tally::moves_told` meets its contract: at a lone `}` the characters before it are counted, at the end they are all of the text's.
use borrow.Author.Tests.{lt-ltb, le-ltb}
use mathlib.Core.Path.{◌≡◌, refl, sym, ap, ◌∙◌}
use native.Mathlib.Omega.{arith}
use lib.ListN.{length}
use Rattle.utf8.specs.Choice.{pick}
use Rattle.utf8.specs.Chars.{chars_from, chars_of}
use Rattle.utf8.specs.CountLaws.{all_before}
use Rattle.scan.specs.ReachLaws.{few_chars}
use Rattle.laws.specs.MoveLaws.{lone, moves_told}
use Rattle.tally.proofs.moves_told.Goals.{Else-stop-text}
use Rattle.tally.proofs.moves_told.Goals as goal

pub returns-then-stop-text : goal.returns-then-stop-text
unfolding moves_told lone pick
returns-then-stop-text c = rw (lt-ltb _ _ c.if-stop-text.true, ← c.chars_between.ensures.0)

-- all characters stand before a place from the end on
whole : (c : Else-stop-text) →
    length (chars_of c.args.text.now 0 c.args.stop) ≡ c.args.chars
whole c =
    let args = c.args in
    let t = args.text.now in
    ap length (all_before t (chars_from t 0) 0 args.stop refl c.if-stop-text.false) ∙ sym c.requires.0

pub overflow_add-result-2 : goal.overflow_add-result-2
overflow_add-result-2 c =
    let args = c.args in
    omega (arith, whole (goal.at.overflow_add-result-2 c).Else-stop-text, few_chars args.text.now 0 args.stop, c.requires.1, c.requires.2)

pub returns : goal.returns
unfolding moves_told lone pick
returns c = rw (le-ltb _ _ c.if-stop-text.false) (omega (arith, whole (goal.at.returns c).Else-stop-text))
