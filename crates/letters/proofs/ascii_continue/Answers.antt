-- `letters::ascii_continue` meets its contract: each way out rewrites with its tests. Assumes nothing.
use mathlib.Core.Path.{sym}
use native.Mathlib.Omega.{arith}
use borrow.Author.Tests.{le-leb, lt-leb}
use Rattle.utf8.specs.Choice.{within}
use Rattle.letters.specs.Ascii.{ascii_continue}
use Rattle.letters.specs.AsciiLaws.{no_start}
use Rattle.letters.proofs.SmallLetters.{small_continue}
use Rattle.letters.proofs.ascii_continue.Goals as goal

pub returns-then-b-ge97 : goal.returns-then-b-ge97
returns-then-b-ge97 c = sym (small_continue _ c.if-b-ge97.true)

pub returns-then-b-lt48 : goal.returns-then-b-lt48
unfolding ascii_continue within
returns-then-b-lt48 c = simp (lt-leb _ _ c.if-b-lt48.true, no_start c.args.b (omega arith))

pub returns-then-b-le57 : goal.returns-then-b-le57
unfolding ascii_continue within
returns-then-b-le57 c = simp (le-leb _ _ c.if-b-lt48.false, le-leb _ _ c.if-b-le57.true)

pub returns : goal.returns
unfolding ascii_continue within
returns c = simp (le-leb _ _ c.if-b-lt48.false, lt-leb _ _ c.if-b-le57.false, c.ascii_start.ensures)
