-- `frame::closes` meets its contract: after a quote the hashes are asked. Assumes nothing.
use Rattle.std.proofs.Common.{sym, ◌∙◌, arith}
use Rattle.utf8.specs.ChoiceLaws.{not_so}
use Rattle.frame.proofs.Literal.{closing_parts, closed}
use Rattle.frame.proofs.closes.Goals as goal

pub returns-in-34 : goal.returns-in-34
returns-in-34 c = c.is_marks.ensures ∙ sym (closing_parts _ _ c.in-34.len_at_least (omega arith))

pub returns-in_default : goal.returns-in_default
returns-in_default c = sym (not_so _ (λ t. let p = closed _ _ t in omega (arith, p.0)))

pub returns-in_default-2 : goal.returns-in_default-2
returns-in_default-2 c = sym (not_so _ (λ t. let p = closed _ _ t in omega (arith, p.1)))
