-- `flawless::write_any_spec` meets its contract: each part is told and written, and where one is another it leaves off.
use mathlib.Core.Path.{◌≡◌, refl, sym, ◌∙◌}
use Prim.Native.Nat.{◌+◌}
use Rattle.quick.specs.Tellings.{precision_of}
use Rattle.told.specs.Told.{Spoilt}
use native.Mathlib.Omega.{arith}
use Rattle.quick.proofs.Specs.{marks, marks_room, spec_known}
use Rattle.told.proofs.Spoiling.{spoilt_wide, spoilt_then}
use Rattle.told.proofs.Telling.{marks_spoilt, type_spoilt, spec_put}
use Rattle.flawless.proofs.Closing.{spec_ended, put_plain}
use Rattle.flawless.proofs.write_any_spec.Goals as goal

pub overflow_add-k : goal.overflow_add-k
overflow_add-k c = omega (arith, c.requires.2, c.well_formed)

pub put4-requires : goal.put4-requires
put4-requires c = omega (arith, c.requires.2, c.put_told_fill.auto.out)

pub word_at-word-requires : goal.word_at-word-requires
word_at-word-requires c =
    let m = marks c.read_align-aligning.ensures c.read_sign-signing.ensures c.consume-hash.ensures c.consume-flag.ensures in
    marks_room m c.requires.1 c.fill_end-fill.ensures

pub width-requires : goal.width-requires
width-requires c =
    let m = marks c.read_align-aligning.ensures c.read_sign-signing.ensures c.consume-hash.ensures c.consume-flag.ensures in
    (marks_room m c.requires.1 c.fill_end-fill.ensures, c.word_at-word.ensures.ends)

pub returns-in_err-width : goal.returns-in_err-width
returns-in_err-width c =
    let a = c.args in
    (spoilt_wide (marks_spoilt a.text.now a.frame a.at _ _ refl a.out.now a.k (omega (arith, c.requires.2)) c.put_told_fill.ensures c.put4.ensures) (omega arith) (omega arith), rw c.from_residual.ensures tt)

pub returns-then-not-is_plain : goal.returns-then-not-is_plain
returns-then-not-is_plain c =
    let a = c.args in
    (spoilt_wide (marks_spoilt a.text.now a.frame a.at _ _ refl a.out.now a.k (omega (arith, c.requires.2)) c.put_told_fill.ensures c.put4.ensures) (omega arith) (omega arith), tt)

pub overflow_add-k-2 : goal.overflow_add-k-2
overflow_add-k-2 c = omega (arith, c.requires.2, c.well_formed)

pub put_told_count-requires : goal.put_told_count-requires
put_told_count-requires c = (c.requires.0, omega (arith, c.requires.2, c.put_told_fill.auto.out, c.put4.auto.out))

pub precision-requires : goal.precision-requires
precision-requires c = record { within = c.in_ok-width.ensures.inside; small = c.requires.1.small }

pub returns-in_err-precision : goal.returns-in_err-precision
returns-in_err-precision c =
    let a = c.args in (
      spoilt_then (marks_spoilt a.text.now a.frame a.at _ _ refl a.out.now a.k (omega (arith, c.requires.2)) c.put_told_fill.ensures c.put4.ensures) (omega arith) (omega arith)
          (c.put_told_count.ensures 0).spoilt (omega arith) (omega arith) (c.put4.auto.out ∙ c.put_told_fill.auto.out),
      rw c.from_residual-in_err-precision.ensures tt,
    )

pub returns-then-not-is_plain-2 : goal.returns-then-not-is_plain-2
returns-then-not-is_plain-2 c =
    let a = c.args in (
      spoilt_then (marks_spoilt a.text.now a.frame a.at _ _ refl a.out.now a.k (omega (arith, c.requires.2)) c.put_told_fill.ensures c.put4.ensures) (omega arith) (omega arith)
          (c.put_told_count.ensures 0).spoilt (omega arith) (omega arith) (c.put4.auto.out ∙ c.put_told_fill.auto.out),
      tt,
    )

pub overflow_add-k-3 : goal.overflow_add-k-3
overflow_add-k-3 c = omega (arith, c.requires.2, c.well_formed)

pub put_told_count-requires-2 : goal.put_told_count-requires-2
put_told_count-requires-2 c = (c.requires.0, omega (arith, c.requires.2, c.put_told_fill.auto.out, c.put4.auto.out, c.put_told_count.auto.out))

pub type_at-requires : goal.type_at-requires
type_at-requires c = (record { within = c.in_ok-precision.ensures.inside; small = c.requires.1.small }, c.word_at-word.ensures.ends)

pub returns-in_err-typed : goal.returns-in_err-typed
returns-in_err-typed c =
    let a = c.args in
    let marked = c.put4.auto.out ∙ c.put_told_fill.auto.out in
    let wide : Spoilt a.k 32 a.out.now c.put_told_count.new.out =
    spoilt_then (marks_spoilt a.text.now a.frame a.at _ _ refl a.out.now a.k (omega (arith, c.requires.2)) c.put_told_fill.ensures c.put4.ensures) (omega arith) (omega arith)
    (c.put_told_count.ensures 0).spoilt (omega arith) (omega arith) marked in
    (spoilt_then wide (omega arith) (omega arith) (c.put_told_count-2.ensures 0).spoilt (omega arith) (omega arith) (c.put_told_count.auto.out ∙ marked), rw c.from_residual-in_err-typed.ensures tt)

pub overflow_add-k-4 : goal.overflow_add-k-4
overflow_add-k-4 c = omega (arith, c.requires.2, c.well_formed)

pub put_told_type-requires : goal.put_told_type-requires
put_told_type-requires c = (c.requires.0, omega (arith, c.requires.2, c.put_told_fill.auto.out, c.put4.auto.out, c.put_told_count.auto.out, c.put_told_count-2.auto.out))

pub given_back-requires : goal.given_back-requires
given_back-requires c = c.word_at-word.ensures

pub returns-then-not-ends : goal.returns-then-not-ends
returns-then-not-ends c =
    let a = c.args in
    let marked = c.put4.auto.out ∙ c.put_told_fill.auto.out in
    let wide : Spoilt a.k 32 a.out.now c.put_told_count.new.out =
    spoilt_then (marks_spoilt a.text.now a.frame a.at _ _ refl a.out.now a.k (omega (arith, c.requires.2)) c.put_told_fill.ensures c.put4.ensures) (omega arith) (omega arith)
    (c.put_told_count.ensures 0).spoilt (omega arith) (omega arith) marked in
    let precise : Spoilt a.k 32 a.out.now c.put_told_count-2.new.out =
    spoilt_then wide (omega arith) (omega arith) (c.put_told_count-2.ensures 0).spoilt (omega arith) (omega arith) (c.put_told_count.auto.out ∙ marked) in
    let same = c.put_told_count-2.auto.out ∙ c.put_told_count.auto.out ∙ marked in
    let typed : Spoilt (a.k + 24) 8 c.put_told_count-2.new.out c.put_told_type.new.out = type_spoilt _ _ _ _ _ (omega (arith, same, c.requires.2)) c.put_told_type.ensures in
    (spoilt_then precise (omega arith) (omega arith) typed (omega arith) (omega arith) same, tt)

pub returns : goal.returns
unfolding precision_of
returns c =
    let a = c.args in
    let m = marks c.read_align-aligning.ensures c.read_sign-signing.ensures c.consume-hash.ensures c.consume-flag.ensures in
    let told = c.ends.ensures c.if-not-ends.false in
    let marked = c.put4.auto.out ∙ c.put_told_fill.auto.out in
    let put =
    spec_put a.text.now a.frame a.at a.next _ a.out.now a.k c.requires.2 {told = a.k ≡ a.k}
    c.put_told_fill.ensures
    (rw (c.align_word.ensures, c.sign_word.ensures, c.bit.ensures, c.bit-2.ensures) at c.put4.ensures)
    (put_plain (sym c.is_plain.ensures ∙ c.if-not-is_plain.false) (c.put_told_count.ensures _))
    (put_plain (sym c.is_plain-2.ensures ∙ c.if-not-is_plain-2.false) (c.put_told_count-2.ensures _)) c.put_told_type.ensures marked
    (c.put_told_count.auto.out ∙ marked) (c.put_told_count-2.auto.out ∙ c.put_told_count.auto.out ∙ marked) in (
      put.spoilt,
      record {
        known = spec_known m c.fill_end-fill.ensures c.in_ok-width.ensures c.given_back.ensures c.in_ok-precision.ensures (omega arith) c.in_ok-typed.ensures told.flag;
        ends = spec_ended told;
        wrote = put.wrote refl;
      },
    )
