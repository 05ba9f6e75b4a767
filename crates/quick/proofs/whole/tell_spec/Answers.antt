-- `quick::whole::tell_spec` meets its contract: it is the definition, part by part, each from where the one before it stood.
use native.Mathlib.Omega.{arith}
use Prim.Native.Nat.{◌≤◌}
use mathlib.Core.Path.{refl, sym, ◌∙◌}
use mathlib.Core.Bool.{true≢false}
use lib.ListN.{length}
use Rattle.quick.proofs.Parts.{back_few}
use Rattle.quick.proofs.Specs.{marks, marks_room, spec_known}
use Rattle.quick.proofs.whole.tell_spec.Goals.{else-flag-via-then-flag+else-byte-eq36, else-flag-via-else-flag}
use Rattle.quick.proofs.whole.tell_spec.Goals as goal

pub word_at-word-requires : goal.word_at-word-requires
word_at-word-requires c = marks_room (marks c.read_align-aligning.ensures c.read_sign-signing.ensures c.consume-hash.ensures c.consume-flag.ensures) c.requires c.fill_end-fill.ensures

pub width-requires : goal.width-requires
width-requires c = (marks_room (marks c.read_align-aligning.ensures c.read_sign-signing.ensures c.consume-hash.ensures c.consume-flag.ensures) c.requires c.fill_end-fill.ensures, c.word_at-word.ensures.ends)

pub type_at-requires : goal.type_at-requires
type_at-requires c = (record { within = c.in_ok-precise.ensures.inside; small = c.requires.small }, c.word_at-word.ensures.ends)

pub overflow_add-result : goal.overflow_add-result
overflow_add-result c =
    let back : c.given_back.result ≤ length c.args.text.now = rw c.given_back.ensures (back_few c.args.text.now _ _ _) in
    omega (arith, back, c.in_ok-precise.ensures.few, c.requires.small)

pub returns : goal.returns
returns c =
    spec_known (marks c.read_align-aligning.ensures c.read_sign-signing.ensures c.consume-hash.ensures c.consume-flag.ensures)
    c.fill_end-fill.ensures
    c.in_ok-wide.ensures
    c.given_back.ensures
    c.in_ok-precise.ensures
    refl
    c.in_ok-typed.ensures
    (elim c.else-flag.branch [
      | else-flag-via-then-flag+else-byte-eq36 w ↦ λ _ b. w.if-byte-eq36.false (w.byte.ensures ∙ b)
      | else-flag-via-else-flag w ↦ λ y _. true≢false (sym y ∙ w.if-flag.false)
    ])
