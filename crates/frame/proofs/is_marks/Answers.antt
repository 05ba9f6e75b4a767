-- `frame::is_marks` meets its contract: it asks the length, and then each byte. Assumes nothing.
use Rattle.std.proofs.Common.{◌∙◌, rules, tests, eqb, ne_eqb}
use Rattle.std.proofs.lemmas.Iterator.{YieldsList-from_slice}
use Rattle.std.proofs.lemmas.Iterator.Search.{all_from_yields_List}
use Rattle.frame.proofs.Literal.{marked_all, other_marks}
use Rattle.frame.proofs.is_marks.Goals as goal

pub returns-then-part-hashes : goal.returns-then-part-hashes
returns-then-part-hashes c =
    rw (← c.if-part-hashes.true)
    (all_from_yields_List (λ b. eqb b 35) _ _ c.all.result c.all.ensures.ran (YieldsList-from_slice c.args.part.now cc) (λ x b q k. search (rules, tests))
    ∙ marked_all _)

pub returns-else-part-hashes : goal.returns-else-part-hashes
returns-else-part-hashes c = rw (other_marks _ _ c.if-part-hashes.false) (ne_eqb _ _ c.if-part-hashes.false)
