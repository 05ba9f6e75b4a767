-- `told::parts::put_told_name` meets its contract: its tag, its bytes and their span, then the span with the `$`.
use Rattle.told.proofs.Telling.{name_laid}
use Rattle.told.proofs.parts.put_told_name.Goals as goal

pub returns : goal.returns
returns c =
    let a = c.args in
    let less = c.one_less-word.ensures in
    let name = rw less at c.span_between-name.ensures in
    name_laid a.text.now a.frame a.start a.from a.end a.out.now a.k c.requires.1
    (rw (c.low.ensures, c.low-2.ensures, c.low-3.ensures, name, less) at c.put4.ensures)
    (rw (c.low-4.ensures, c.low-5.ensures, c.low-6.ensures, name, c.span_between-span.ensures) at c.put4-2.ensures)
