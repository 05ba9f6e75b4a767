-- `scan::past` meets its contract: a character that is seen is within the text, so the place past it fits.
use Rattle.std.proofs.Common.{sym, ◌∙◌, add-zero, arith}
use Rattle.utf8.specs.CharLaws.{peeked}
use Rattle.scan.specs.Characters.{past_at}
use Rattle.scan.proofs.past.Goals as goal

pub overflow_add-result : goal.overflow_add-result
overflow_add-result c = let p = peeked _ _ (sym c.peek.ensures ∙ c.in-Some.is) in omega arith

pub returns-in-Some : goal.returns-in-Some
unfolding past_at
returns-in-Some c = rw (← c.peek.ensures, c.in-Some.is)

pub returns-in-None : goal.returns-in-None
unfolding past_at
returns-in-None c = rw (← c.peek.ensures, c.in-None.is, add-zero)
