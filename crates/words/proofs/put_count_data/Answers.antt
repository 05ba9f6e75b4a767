-- `words::put_count_data` meets its contract: four numbers, by what the count is.
use Rattle.words.proofs.put_count_data.Goals as goal

pub returns-in-Implied : goal.returns-in-Implied
returns-in-Implied c = rw c.in-Implied.is c.put4.ensures

pub returns-in-Fixed : goal.returns-in-Fixed
returns-in-Fixed c = rw (c.in-Fixed.is, ← c.numeral_tag.ensures, ← c.numeral_word.ensures) c.put4-in-Fixed.ensures

pub returns-in-ByArgument : goal.returns-in-ByArgument
returns-in-ByArgument c = rw (c.in-ByArgument.is, ← c.numeral_tag-in-ByArgument.ensures, ← c.numeral_word-in-ByArgument.ensures) c.put4-in-ByArgument.ensures

pub returns-in-ByStar : goal.returns-in-ByStar
returns-in-ByStar c = rw (c.in-ByStar.is, ← c.low.ensures) c.put4-in-ByStar.ensures

pub returns-in-ByName : goal.returns-in-ByName
returns-in-ByName c = rw (c.in-ByName.is, ← c.low-in-ByName.ensures, ← c.low-in-ByName-2.ensures, ← c.low-in-ByName-3.ensures) c.put4-in-ByName.ensures
