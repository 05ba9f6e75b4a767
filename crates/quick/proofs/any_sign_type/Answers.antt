-- `quick::any_sign_type` meets its contract: a sign alone, or one with the `?` after it.
use borrow.Author.Tests.{eq-eqb, ne_eqb}
use lib.Dec.{eqb}
use mathlib.Core.Path.{◌≡◌, sym, ◌∙◌, ap}
use Rattle.utf8.specs.Choice.{pick}
use Rattle.placeholder.specs.declared.Hex.{Hex}
use Rattle.quick.specs.PartsTold.{sign_byte}
use Rattle.quick.proofs.Parts.{type_signed, type_hex}
use Rattle.quick.proofs.any_sign_type.Goals.{then-b-eq120, else-b-eq120}
use Rattle.quick.proofs.any_sign_type.Goals as goal

pub returns-then-b-eq63 : goal.returns-then-b-eq63
returns-then-b-eq63 c =
    let p = c.requires in
    rw c.sign_type.ensures (type_signed _ _ (ap sign_byte (sym p.1) ∙ p.2))

pub returns-then-byte-ne63 : goal.returns-then-byte-ne63
returns-then-byte-ne63 c =
    let p = c.requires in
    rw c.sign_type-then-byte-ne63.ensures (type_signed _ _ (ap sign_byte (sym p.1) ∙ p.2))

pub returns : goal.returns
unfolding pick
returns c =
    let p = c.requires in
    let h : c.if-b-eq120.result ≡ pick (eqb c.args.b 0x78) Hex.Lower Hex.Upper =
    elim c.if-b-eq120.branch [
      | then-b-eq120 w ↦ w.result-is ∙ rw (eq-eqb _ _ w.if-b-eq120.true)
      | else-b-eq120 w ↦ w.result-is ∙ rw (ne_eqb _ _ w.if-b-eq120.false)
    ] in
    rw (h, p.1)
    (type_hex (ap sign_byte (sym p.1) ∙ p.2) (λ q. c.if-b-eq63.false (p.1 ∙ q)) (sym c.byte.ensures ∙ c.if-byte-ne63.false))
