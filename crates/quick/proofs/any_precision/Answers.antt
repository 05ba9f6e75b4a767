-- `quick::any_precision` meets its contract: no dot, a dot and a star, what a width may be, or a dot with none behind it.
use mathlib.Core.Path.{sym, ◌∙◌}
use native.Mathlib.Omega.{arith}
use Rattle.quick.proofs.Bytes.{room_past}
use Rattle.quick.proofs.Parts.{precision_none, precision_star, precision_width, precision_dot}
use Rattle.quick.proofs.any_precision.Goals as goal

pub returns-then-byte-ne46 : goal.returns-then-byte-ne46
returns-then-byte-ne46 c =
    rw (c.kept.ensures, c.no_count.ensures) (precision_none (λ q. c.if-byte-ne46.true (c.byte.ensures ∙ q)) c.requires.within)

pub returns-then-byte-eq42 : goal.returns-then-byte-eq42
returns-then-byte-eq42 c =
    rw (c.kept-then-byte-eq42.ensures, c.plain.ensures)
    (precision_star (sym c.byte.ensures ∙ c.if-byte-ne46.false) (sym c.byte-2.ensures ∙ c.if-byte-eq42.true))

pub word_at-word-requires : goal.word_at-word-requires
word_at-word-requires c =
    room_past c.requires (sym c.byte.ensures ∙ c.if-byte-ne46.false) (omega arith)

pub width-requires : goal.width-requires
width-requires c =
    (room_past c.requires (sym c.byte.ensures ∙ c.if-byte-ne46.false) (omega arith), c.word_at-word.ensures.ends)

pub returns-then-not-is_nothing : goal.returns-then-not-is_nothing
returns-then-not-is_nothing c =
    rw c.kept-then-not-is_nothing.ensures
    (precision_width (sym c.byte.ensures ∙ c.if-byte-ne46.false) (λ q. c.if-byte-eq42.false (c.byte-2.ensures ∙ q)) c.in_ok-count.ensures c.if-count.false
    (sym c.is_nothing.ensures ∙ c.if-not-is_nothing.true))

pub returns : goal.returns
returns c =
    rw (c.given_back.ensures, c.plain-2.ensures)
    (precision_dot (sym c.byte.ensures ∙ c.if-byte-ne46.false) (λ q. c.if-byte-eq42.false (c.byte-2.ensures ∙ q)) c.in_ok-count.ensures c.if-count.false (sym c.is_nothing.ensures ∙ c.if-not-is_nothing.false))
