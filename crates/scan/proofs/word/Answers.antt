-- `scan::word` meets its contract: it is the definition, call by call; where `_` stands the text has not ended, so the place past it fits.
use Rattle.std.proofs.Common.{sym, ◌∙◌, arith, eq-eqb, ne_eqb}
use Rattle.utf8.specs.Choice.{pick}
use Rattle.scan.specs.Words.{is_underscore, word_read}
use Rattle.scan.specs.ScanLaws.{is_at_in}
use Rattle.scan.proofs.word.Goals.{else-peek_is-via-then-peek_is+else-end-at, else-peek_is-via-else-peek_is}
use Rattle.scan.proofs.word.Goals as goal

pub overflow_add-at : goal.overflow_add-at
overflow_add-at c =
    let h = is_at_in _ _ _ (sym c.peek_is.ensures ∙ c.if-peek_is.true) in omega arith

pub returns-then-end-at : goal.returns-then-end-at
unfolding word_read is_underscore pick
returns-then-end-at c =
    rw (← c.word_end-end.ensures, ← c.peek_is.ensures, c.if-peek_is.true, eq-eqb _ _ c.if-end-at.true)

pub returns : goal.returns
unfolding word_read is_underscore pick
returns c = elim c.else-peek_is.branch [
  | else-peek_is-via-then-peek_is+else-end-at w ↦ rw (← c.word_end-end.ensures, ← c.peek_is.ensures, w.if-peek_is.true, ne_eqb _ _ w.if-end-at.false)
  | else-peek_is-via-else-peek_is w ↦ rw (← c.word_end-end.ensures, ← c.peek_is.ensures, w.if-peek_is.false)
]
