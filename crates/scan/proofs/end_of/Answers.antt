-- `scan::end_of` meets its contract: a character that is seen is within the text, so the place past it is small.
use Rattle.std.proofs.Common.{sym, ◌∙◌, arith}
use Rattle.utf8.specs.CharLaws.{peeked}
use Rattle.scan.specs.Ends.{end_of}
use Rattle.scan.proofs.end_of.Goals as goal

pub overflow_add-end : goal.overflow_add-end
overflow_add-end c = let p = peeked _ _ (sym c.peek.ensures ∙ c.in-Some.is) in omega arith

pub to_snippet-requires : goal.to_snippet-requires
to_snippet-requires c =
    let s = c.requires in
    let p = peeked _ _ (sym c.peek.ensures ∙ c.in-Some.is) in
    (omega arith, s.quote)

pub returns-in-Some : goal.returns-in-Some
unfolding end_of
returns-in-Some c = rw (← c.peek.ensures, c.in-Some.is, ← c.to_snippet.ensures)

pub returns-in-None : goal.returns-in-None
unfolding end_of
returns-in-None c = rw (← c.peek.ensures, c.in-None.is)
