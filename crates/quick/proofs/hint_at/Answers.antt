-- `quick::hint_at` meets its contract: it is the definition, test by test; a `}` is no sign.
use mathlib.Core.Path.{sym, ◌∙◌}
use borrow.Author.Tests.{eq-eqb, ne_eqb, le-leb, lt-leb}
use Rattle.utf8.specs.Choice.{pick}
use Rattle.quick.specs.PartsTold.{hint_of}
use Rattle.quick.proofs.Endings.{brace_silent}
use Rattle.quick.proofs.hint_at.Goals as goal

pub returns-then-b-eq125 : goal.returns-then-b-eq125
returns-then-b-eq125 c = brace_silent _ _ (sym c.byte-b.ensures ∙ c.if-b-eq125.true)

pub returns-then-text-at : goal.returns-then-text-at
unfolding hint_of pick
returns-then-text-at c = rw (le-leb _ _ c.if-text-at.true)

pub returns-then-is_align : goal.returns-then-is_align
unfolding hint_of pick
returns-then-is_align c =
    rw (← c.byte-b.ensures, lt-leb _ _ c.if-text-at.false, ← c.is_align.ensures, c.if-is_align.true)

pub returns-then-b-eq44 : goal.returns-then-b-eq44
unfolding hint_of pick
returns-then-b-eq44 c =
    rw (
      ← c.byte-b.ensures,
      lt-leb _ _ c.if-text-at.false,
      ← c.is_align.ensures,
      c.if-is_align.false,
      eq-eqb _ _ c.if-b-eq44.true,
    )

pub returns-then-b-eq43 : goal.returns-then-b-eq43
unfolding hint_of pick
returns-then-b-eq43 c =
    rw (
      ← c.byte-b.ensures,
      lt-leb _ _ c.if-text-at.false,
      ← c.is_align.ensures,
      c.if-is_align.false,
      ne_eqb _ _ c.if-b-eq44.false,
      eq-eqb _ _ c.if-b-eq43.true,
    )

pub returns-then-byte-eq125 : goal.returns-then-byte-eq125
unfolding hint_of pick
returns-then-byte-eq125 c =
    rw (
      ← c.byte-b.ensures,
      lt-leb _ _ c.if-text-at.false,
      ← c.is_align.ensures,
      c.if-is_align.false,
      ne_eqb _ _ c.if-b-eq44.false,
      ne_eqb _ _ c.if-b-eq43.false,
      eq-eqb _ _ c.if-b-eq61.true,
      ← c.byte.ensures,
      eq-eqb _ _ c.if-byte-eq125.true,
    )

pub returns-else-byte-eq125 : goal.returns-else-byte-eq125
unfolding hint_of pick
returns-else-byte-eq125 c =
    rw (
      ← c.byte-b.ensures,
      lt-leb _ _ c.if-text-at.false,
      ← c.is_align.ensures,
      c.if-is_align.false,
      ne_eqb _ _ c.if-b-eq44.false,
      ne_eqb _ _ c.if-b-eq43.false,
      eq-eqb _ _ c.if-b-eq61.true,
      ← c.byte.ensures,
      ne_eqb _ _ c.if-byte-eq125.false,
    )

pub returns-else-b-eq61 : goal.returns-else-b-eq61
unfolding hint_of pick
returns-else-b-eq61 c =
    rw (
      ← c.byte-b.ensures,
      lt-leb _ _ c.if-text-at.false,
      ← c.is_align.ensures,
      c.if-is_align.false,
      ne_eqb _ _ c.if-b-eq44.false,
      ne_eqb _ _ c.if-b-eq43.false,
      ne_eqb _ _ c.if-b-eq61.false,
    )
