-- `told::parts::put_told_type` meets its contract: its bytes, then a word's span.
use Rattle.told.proofs.Telling.{type_word_lem, type_sign}
use Rattle.told.proofs.parts.put_told_type.Goals as goal

pub returns-then-typed : goal.returns-then-typed
returns-then-typed c =
    let a = c.args in
    type_word_lem a.text.now a.frame a.typed a.out.now a.k c.requires.1 c.if-typed.true
    (rw (c.low.ensures, c.low-2.ensures, c.hex_word.ensures) at c.put4.ensures)
    (rw (c.low-then-typed.ensures, c.low-then-typed-2.ensures, c.span_between-span.ensures) at c.put4-then-typed.ensures)

pub returns : goal.returns
returns c =
    let a = c.args in
    type_sign a.text.now a.frame a.typed a.out.now a.k c.requires.1 c.if-typed.false
    (rw (c.low.ensures, c.low-2.ensures, c.hex_word.ensures) at c.put4.ensures)
    c.put4-2.ensures
