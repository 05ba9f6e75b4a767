-- `flawless::short::short_precision` meets its contract: no dot, or a dot and a number.
use mathlib.Core.Path.{sym, ◌∙◌, ap}
use native.Mathlib.Omega.{arith}
use Rattle.scan.specs.Words.{is_digit}
use Rattle.quick.proofs.Bytes.{room_past}
use Rattle.flawless.specs.Short.{ShortPrecision}
use Rattle.flawless.proofs.short.short_precision.Goals as goal

pub returns-then-byte-ne46 : goal.returns-then-byte-ne46
returns-then-byte-ne46 c = rw c.no_count.ensures (ShortPrecision.none (λ q. c.if-byte-ne46.true (c.byte.ensures ∙ q)))

pub number-requires : goal.number-requires
number-requires c = (room_past c.requires (sym c.byte.ensures ∙ c.if-byte-ne46.false) (omega arith), ap is_digit (sym c.byte-2.ensures) ∙ sym c.is_digit.ensures ∙ c.if-not-is_digit.false)

pub returns : goal.returns
returns c =
    rw c.fixed_count.ensures
    (ShortPrecision.number c.in_ok-number.ensures (sym c.byte.ensures ∙ c.if-byte-ne46.false) (ap is_digit (sym c.byte-2.ensures) ∙ sym c.is_digit.ensures ∙ c.if-not-is_digit.false))
