-- `flawless::type_at` meets its contract: nothing before a closing brace, a sign after which the spec ends, a word, or nothing.
use mathlib.Core.Path.{sym, ◌∙◌, ap}
use Rattle.quick.specs.PartsTold.{sign_byte}
use Rattle.quick.proofs.Bytes.{room_past}
use Rattle.quick.proofs.Parts.{sign_some, type_signed, type_named}
use Rattle.flawless.proofs.Closing.{type_none_lem}
use Rattle.flawless.proofs.type_at.Goals.{then-at-from, else-at-from}
use Rattle.flawless.proofs.type_at.Goals as goal

pub returns-then-b-eq125 : goal.returns-then-b-eq125
returns-then-b-eq125 c = rw c.no_type.ensures (type_none_lem (sym c.byte-b.ensures ∙ c.if-b-eq125.true) c.requires.0.within)

pub sign_type-requires : goal.sign_type-requires
sign_type-requires c =
    room_past c.requires.0 (sym c.byte-b.ensures) (sign_some _ (sym c.is_type_sign.ensures ∙ c.if-is_type_sign.true))

pub returns-then-is_type_sign : goal.returns-then-is_type_sign
returns-then-is_type_sign c =
    rw c.sign_type.ensures (type_signed _ _ (ap sign_byte (sym c.byte-b.ensures) ∙ sym c.is_type_sign.ensures ∙ c.if-is_type_sign.true))

pub returns : goal.returns
returns c =
    let e = c.byte-b.ensures in
    let p = c.requires in
    rw (c.word_type.ensures, e)
    (type_named (ap sign_byte (sym e) ∙ sym c.is_type_sign.ensures ∙ c.if-is_type_sign.false)
    (elim c.if-at-from.branch [
      | then-at-from w ↦ rw w.if-at-from.true (w.end-is ∙ p.1)
      | else-at-from w ↦ w.end-is ∙ w.word_end-end.ensures
    ])
    p.0.within)
