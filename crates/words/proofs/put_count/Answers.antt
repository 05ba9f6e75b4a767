-- `words::put_count` meets its contract: the data, and then the span.
use Rattle.words.proofs.Wholes.{count_laid}
use Rattle.words.proofs.put_count.Goals as goal

pub returns : goal.returns
returns c =
    let a = c.args in
    count_laid a.out.now a.k a.count a.span c.requires c.put_count_data.ensures
    (rw c.name_span_end.ensures at c.put_span.ensures)
