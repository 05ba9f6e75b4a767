-- `flawless::short::short_width` meets its contract: nothing at a dot, or a number.
use mathlib.Core.Path.{sym, ◌∙◌}
use native.Mathlib.Omega.{arith}
use Rattle.flawless.specs.Short.{ShortWidth}
use Rattle.flawless.proofs.Shortening.{digit_some}
use Rattle.flawless.proofs.short.short_width.Goals as goal

pub returns-then-b-eq46 : goal.returns-then-b-eq46
returns-then-b-eq46 c = rw c.no_count.ensures (ShortWidth.none (sym c.requires.1 ∙ c.if-b-eq46.true))

pub number-requires : goal.number-requires
number-requires c = (c.requires.0, digit_some _ (omega (arith, c.requires.1, c.if-b-lt-FIRST_OF_WIDTH.false)) (omega (arith, c.requires.1, c.if-b-gt57.false)))

pub returns : goal.returns
returns c =
    rw c.fixed_count.ensures
    (ShortWidth.number c.in_ok-number.ensures (omega (arith, c.requires.1, c.if-b-lt-FIRST_OF_WIDTH.false)) (omega (arith, c.requires.1, c.if-b-gt57.false)))
