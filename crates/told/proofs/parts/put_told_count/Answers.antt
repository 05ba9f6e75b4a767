-- `told::parts::put_told_count` meets its contract: its kind and value, then its span.
use Rattle.told.proofs.Telling.{put_none, put_some}
use Rattle.told.proofs.parts.put_told_count.Goals as goal

pub returns-in-Nothing : goal.returns-in-Nothing
returns-in-Nothing c from =
    let a = c.args in
    put_none a.text.now a.frame a.start from a.next a.part c.in-Nothing.is a.out.now a.k c.requires.1 c.put4.ensures c.put4-in-Nothing.ensures

pub returns-in_default : goal.returns-in_default
returns-in_default c from =
    let a = c.args in
    put_some a.text.now a.frame a.start from a.next a.part c.in_default.not-Nothing a.out.now a.k c.requires.1
    (rw (c.kind_number-number.ensures, c.kind_value.ensures) at c.put4-in_default.ensures)
    (rw (c.low.ensures, c.low-in_default.ensures, c.span_between-span.ensures) at c.put4-in_default-2.ensures)
