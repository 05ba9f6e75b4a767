-- `words::put_span` meets its contract: four numbers, by whether the span is absent.
use Rattle.words.proofs.put_span.Goals as goal

pub returns-in-None : goal.returns-in-None
returns-in-None c = rw c.in-None.is c.put4.ensures

pub returns-in-Some : goal.returns-in-Some
returns-in-Some c = rw (c.in-Some.is, ← c.low.ensures, ← c.low-in-Some.ensures) c.put4-in-Some.ensures
