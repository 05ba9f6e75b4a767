-- `letters::ascii_start` meets its contract: each way out rewrites with its tests. Assumes nothing.
use mathlib.Core.Path.{sym}
use borrow.Author.Tests.{le-leb, lt-leb}
use Rattle.utf8.specs.Choice.{within}
use Rattle.letters.specs.Ascii.{ascii_start}
use Rattle.letters.specs.AsciiLaws.{no_start}
use Rattle.letters.proofs.SmallLetters.{small_start}
use Rattle.letters.proofs.ascii_start.Goals as goal

pub returns-then-b-ge97 : goal.returns-then-b-ge97
returns-then-b-ge97 c = sym (small_start _ c.if-b-ge97.true)

pub returns-then-b-lt65 : goal.returns-then-b-lt65
returns-then-b-lt65 c = sym (no_start _ c.if-b-lt65.true)

pub returns-then-b-le90 : goal.returns-then-b-le90
unfolding ascii_start within
returns-then-b-le90 c = simp (lt-leb _ _ c.if-b-ge97.false, le-leb _ _ c.if-b-lt65.false, le-leb _ _ c.if-b-le90.true)

pub returns : goal.returns
unfolding ascii_start within
returns c = simp (lt-leb _ _ c.if-b-ge97.false, le-leb _ _ c.if-b-lt65.false, lt-leb _ _ c.if-b-le90.false)
