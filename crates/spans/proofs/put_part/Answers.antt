-- `spans::put_part` meets its contract. The invariant: with the lines of the characters that are left the list is as it is to be,
-- and the line after them starts where it is to. The measure is what is left of the part.
use Prim.Native.Nat.{◌+◌}
use native.Mathlib.Omega.{arith}
use mathlib.Core.Path.{sym, ◌∙◌}
use mathlib.Core.List.{[], ◌∷◌}
use Rattle.utf8.specs.Chars.{ch, chars_from, before}
use Rattle.utf8.specs.CharLaws.{peeked, before_more, before_past, before_end}
use Rattle.reading.specs.Lines.{chars_in}
use Rattle.spans.proofs.Lining.{lining_first, lining_done, lining_room, lining_on}
use Rattle.spans.proofs.put_part.Goals as goal

pub loop-i-init : goal.loop-i-init
loop-i-init c = let a = c.args in lining_first a.frame a.run _ a.out.now

pub peek-requires : goal.peek-requires
peek-requires c = tt

pub put_char-on-requires : goal.put_char-on-requires
unfolding chars_in
put_char-on-requires c =
    let t = c.args.text.now in
    let l = c.loop-i in
    let seen = sym c.peek.ensures ∙ c.in-Some.is in
    let p = peeked t l.i seen in (
      omega (arith, p.room, c.requires.0.text),
      c.requires.0.quote,
      lining_room l.invariant (ch _ l.i _ ∷ []) (before c.args.part.end.0 (chars_from t (l.i + _)))
          (before_more t c.args.part.end.0 l.i c.loop-i-test.true seen) c.requires.1,
    )

pub overflow_add-i : goal.overflow_add-i
overflow_add-i c =
    let l = c.loop-i in
    let p = peeked c.args.text.now l.i (sym c.peek.ensures ∙ c.in-Some.is) in
    omega (arith, p.room, c.requires.0.text)

pub loop-i-smaller : goal.loop-i-smaller
loop-i-smaller c =
    let l = c.loop-i in
    let p = peeked c.args.text.now l.i (sym c.peek.ensures ∙ c.in-Some.is) in
    omega (arith, p.some, c.loop-i-test.true)

pub loop-i-preserved : goal.loop-i-preserved
unfolding chars_in
loop-i-preserved c =
    let t = c.args.text.now in
    let l = c.loop-i in
    let seen = sym c.peek.ensures ∙ c.in-Some.is in
    lining_on l.invariant (ch _ l.i _ ∷ []) (before c.args.part.end.0 (chars_from t (l.i + _)))
    (before_more t c.args.part.end.0 l.i c.loop-i-test.true seen) c.requires.1 c.put_char-on.ensures

pub returns-in_default : goal.returns-in_default
unfolding chars_in
returns-in_default c =
    let a = c.args in
    let l = c.loop-i in
    lining_done l.invariant (before_end a.text.now a.part.end.0 l.i (sym c.peek.ensures ∙ c.in_default.is))

pub returns : goal.returns
unfolding chars_in
returns c =
    let a = c.args in
    let l = c.loop-i in
    lining_done l.invariant (before_past a.text.now a.part.end.0 l.i c.loop-i-test.false)
