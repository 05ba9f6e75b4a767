-- `quick::number` meets its contract. The invariant: the digits passed spell the value. A fifth digit is not told.
use Prim.Native.Nat.{◌+◌}
use mathlib.Core.Path.{◌≡◌, sym, ◌∙◌, ap}
use native.Mathlib.Omega.{arith}
use Rattle.scan.specs.Words.{is_digit}
use Rattle.quick.proofs.Bytes.{digit_range}
use Rattle.quick.proofs.Numbers.{spelt_none, spelt_few, spelt_more, spelt_stop}
use Rattle.quick.proofs.number.Goals as goal

pub loop-i-init : goal.loop-i-init
loop-i-init c = spelt_none c.requires.0

pub returns-then-not-is_digit : goal.returns-then-not-is_digit
returns-then-not-is_digit c =
    spelt_stop c.loop-i.invariant c.requires.1
    (ap is_digit (sym c.byte-b.ensures) ∙ sym c.is_digit.ensures ∙ c.if-not-is_digit.true)

pub overflow_mul-value : goal.overflow_mul-value
overflow_mul-value c =
    let few = spelt_few c.loop-i.invariant c.loop-i-test.true in omega arith

pub overflow_sub-value : goal.overflow_sub-value
overflow_sub-value c =
    let r = digit_range (sym c.is_digit.ensures ∙ c.if-not-is_digit.false) in omega arith

pub overflow_cast-value : goal.overflow_cast-value
overflow_cast-value c =
    let r = digit_range (sym c.is_digit.ensures ∙ c.if-not-is_digit.false) in omega arith

pub overflow_add-value : goal.overflow_add-value
overflow_add-value c =
    let few = spelt_few c.loop-i.invariant c.loop-i-test.true in
    let r = digit_range (sym c.is_digit.ensures ∙ c.if-not-is_digit.false) in omega arith

pub loop-i-preserved : goal.loop-i-preserved
loop-i-preserved c =
    spelt_more c.loop-i.invariant c.loop-i-test.true c.byte-b.ensures
    (sym c.is_digit.ensures ∙ c.if-not-is_digit.false)

pub returns : goal.returns
returns c =
    let all : c.loop-i.i ≡ c.args.at + 4 = omega (arith, c.loop-i.auto.i-end (omega arith)) in
    spelt_stop (rw all at c.loop-i.invariant) c.requires.1
    (ap is_digit (sym c.byte.ensures) ∙ sym c.is_digit-2.ensures ∙ c.if-is_digit.false)
