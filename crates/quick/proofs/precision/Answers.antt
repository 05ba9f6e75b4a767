-- `quick::precision` meets its contract: no dot, a dot and a star, or a dot and a count.
use mathlib.Core.Path.{sym, ◌∙◌, ap}
use native.Mathlib.Omega.{arith}
use Rattle.std.proofs.lemmas.Option.{IfSome_then}
use Rattle.scan.specs.Words.{is_digit}
use Rattle.quick.proofs.Bytes.{room_past}
use Rattle.quick.proofs.Parts.{width_count, precision_none, precision_star, precision_width}
use Rattle.quick.proofs.precision.Goals as goal

pub returns-then-byte-ne46 : goal.returns-then-byte-ne46
returns-then-byte-ne46 c =
    rw c.no_count.ensures (precision_none (λ q. c.if-byte-ne46.true (c.byte.ensures ∙ q)) c.requires.within)

pub returns-then-b-eq42 : goal.returns-then-b-eq42
returns-then-b-eq42 c =
    rw c.plain.ensures
    (precision_star (sym c.byte.ensures ∙ c.if-byte-ne46.false) (sym c.byte-b.ensures ∙ c.if-b-eq42.true))

pub count-requires : goal.count-requires
count-requires c = (
  room_past c.requires (sym c.byte.ensures ∙ c.if-byte-ne46.false) (omega arith),
  ap is_digit (sym c.byte-b.ensures) ∙ sym c.is_digit.ensures ∙ c.if-is_digit.true,
)

pub returns-then-is_digit : goal.returns-then-is_digit
returns-then-is_digit c =
    IfSome_then _ c.count.ensures (λ _ g.
    precision_width (sym c.byte.ensures ∙ c.if-byte-ne46.false) (λ q. c.if-b-eq42.false (c.byte-b.ensures ∙ q)) (width_count {word = 0} g) g.whole g.some)
