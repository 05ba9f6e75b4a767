-- `told::parts::put_told_head` meets its contract: the range and the tag, then the place and its span.
use Rattle.told.proofs.Telling.{head_laid}
use Rattle.told.proofs.parts.put_told_head.Goals as goal

pub returns : goal.returns
returns c =
    let a = c.args in
    head_laid a.text.now a.frame a.brace a.told a.next a.out.now a.k c.requires.3
    (rw (c.low.ensures, c.low-2.ensures, c.place_number.ensures) at c.put4.ensures)
    (rw c.span_between-span.ensures at c.put_told_place.ensures)
