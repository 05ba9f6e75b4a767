-- `frame::opens` meets its contract: between r and a quote the hashes are asked. Assumes nothing.
use Rattle.std.proofs.Common.{sym, ◌∙◌, arith}
use Rattle.utf8.specs.ChoiceLaws.{not_so}
use Rattle.frame.proofs.Literal.{opening_parts, opened}
use Rattle.frame.proofs.opens.Goals as goal

pub returns-in-114 : goal.returns-in-114
returns-in-114 c = c.is_marks.ensures ∙ sym (opening_parts _ _ c.in-114.len_at_least (omega arith) (omega arith))

pub returns-in_default : goal.returns-in_default
returns-in_default c = sym (not_so _ (λ t. let p = opened _ _ t in omega (arith, p.long)))

pub returns-in_default-2 : goal.returns-in_default-2
returns-in_default-2 c = sym (not_so _ (λ t. let p = opened _ _ t in omega (arith, p.first, p.last)))

pub returns-in_default-3 : goal.returns-in_default-3
returns-in_default-3 c = sym (not_so _ (λ t. let p = opened _ _ t in omega (arith, p.first, p.last)))
