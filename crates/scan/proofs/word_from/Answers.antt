-- `scan::word_from` meets its contract: it is the definition, test by test and call by call; a start that is seen is within the text, so the place past
-- it fits.
use Rattle.std.proofs.Common.{sym, ◌∙◌, arith, le-ltb, lt-ltb}
use Rattle.utf8.specs.Choice.{pick}
use Rattle.utf8.specs.CharLaws.{peeked}
use Rattle.scan.specs.Words.{word_end, word_from}
use Rattle.scan.proofs.word_from.Goals as goal

pub returns-then-i-known : goal.returns-then-i-known
unfolding word_from pick
returns-then-i-known c = rw (lt-ltb _ _ c.if-i-known.true, ← c.continue_end.ensures)

pub overflow_add-i : goal.overflow_add-i
overflow_add-i c =
    let p = peeked _ _ (sym c.peek.ensures ∙ c.in-Some.is) in omega arith

pub returns-then-is_start : goal.returns-then-is_start
unfolding word_from word_end pick
returns-then-is_start c =
    rw (le-ltb _ _ c.if-i-known.false, ← c.peek.ensures, c.in-Some.is, ← c.is_start.ensures, c.if-is_start.true, ← c.continue_end-then-is_start.ensures)

pub returns-else-is_start : goal.returns-else-is_start
unfolding word_from word_end pick
returns-else-is_start c =
    rw (le-ltb _ _ c.if-i-known.false, ← c.peek.ensures, c.in-Some.is, ← c.is_start.ensures, c.if-is_start.false)

pub returns-in-None : goal.returns-in-None
unfolding word_from word_end pick
returns-in-None c = rw (le-ltb _ _ c.if-i-known.false, ← c.peek.ensures, c.in-None.is)
