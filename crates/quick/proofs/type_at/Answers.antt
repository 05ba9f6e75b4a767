-- `quick::type_at` meets its contract: a sign after which the spec ends, a word, or nothing. The word at `from` is the one that was found.
use mathlib.Core.Path.{sym, ◌∙◌, ap}
use Rattle.quick.specs.PartsTold.{sign_byte}
use Rattle.quick.proofs.Bytes.{room_past}
use Rattle.quick.proofs.Parts.{sign_some, type_named}
use Rattle.quick.proofs.type_at.Goals.{then-at-from, else-at-from}
use Rattle.quick.proofs.type_at.Goals as goal

pub any_sign_type-requires : goal.any_sign_type-requires
any_sign_type-requires c =
    let y = sym c.is_type_sign.ensures ∙ c.if-is_type_sign.true in
    (room_past c.requires.0 (sym c.byte-b.ensures) (sign_some _ y), c.byte-b.ensures, y)

pub returns-then-is_type_sign : goal.returns-then-is_type_sign
returns-then-is_type_sign c = c.any_sign_type.ensures

pub returns : goal.returns
returns c =
    let e = c.byte-b.ensures in
    let p = c.requires in
    rw (c.word_type.ensures, e)
    (type_named (ap sign_byte (sym e) ∙ sym c.is_type_sign.ensures ∙ c.if-is_type_sign.false)
    (elim c.if-at-from.branch [
      | then-at-from w ↦ rw w.if-at-from.true (w.end-is ∙ p.1)
      | else-at-from w ↦ w.end-is ∙ w.word_end-end.ensures
    ])
    p.0.within)
