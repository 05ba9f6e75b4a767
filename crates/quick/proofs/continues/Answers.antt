-- `quick::continues` meets its contract: it is the definition, test by test.
use mathlib.Core.Path.{sym, ◌∙◌}
use Rattle.utf8.specs.Choice.{within}
use Rattle.utf8.specs.ChoiceLaws.{either_true, either_false}
use Rattle.scan.specs.Words.{is_digit}
use Rattle.letters.specs.Ascii.{ascii_continue}
use Rattle.quick.proofs.continues.Goals as goal

pub returns-then-ascii_start : goal.returns-then-ascii_start
unfolding ascii_continue
returns-then-ascii_start c = rw (← c.ascii_start.ensures, c.if-ascii_start.true) (sym (either_true (within c.args.b 0x30 0x39)))

pub returns : goal.returns
unfolding ascii_continue is_digit
returns c = c.is_digit.ensures ∙ rw (← c.ascii_start.ensures, c.if-ascii_start.false) (sym (either_false (within c.args.b 0x30 0x39)))
