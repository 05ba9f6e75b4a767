-- `scribe::parts::put_count` meets its contract, by what the count is.
use Rattle.pen.specs.PenLaws.{laid_none}
use Rattle.pen.proofs.Laying.{laid_on}
use Rattle.scribe.specs.ScribeLaws.{name_first, name_rest, number_first, number_rest}
use Rattle.scribe.proofs.parts.put_count.Goals as goal

pub put_numeral-requires : goal.put_numeral-requires
put_numeral-requires c = rw c.in-Fixed.is at c.requires

pub put_range-k-requires : goal.put_range-k-requires
put_range-k-requires c = name_first c.args.at c.args.text.now _ _ c.in-ByName.is c.requires

pub put_byte-requires : goal.put_byte-requires
put_byte-requires c =
    name_rest c.args.at c.args.text.now _ _ c.in-ByName.is c.requires c.put_range-k.ensures.place

pub put_numeral-k-requires : goal.put_numeral-k-requires
put_numeral-k-requires c = number_first c.args.at c.args.text.now _ c.in-ByArgument.is c.requires

pub put_byte-requires-in-ByArgument : goal.put_byte-requires-in-ByArgument
put_byte-requires-in-ByArgument c =
    number_rest c.args.at c.args.text.now _ c.in-ByArgument.is c.requires c.put_numeral-k.ensures.place

pub put_byte-requires-in-ByStar : goal.put_byte-requires-in-ByStar
put_byte-requires-in-ByStar c = rw c.in-ByStar.is at c.requires

pub returns-in-Implied : goal.returns-in-Implied
returns-in-Implied c = rw c.in-Implied.is (laid_none _ _)

pub returns-in-Fixed : goal.returns-in-Fixed
returns-in-Fixed c = rw c.in-Fixed.is c.put_numeral.ensures

pub returns-in-ByName : goal.returns-in-ByName
returns-in-ByName c = rw c.in-ByName.is (laid_on _ _ c.put_range-k.ensures c.put_byte.ensures)

pub returns-in-ByArgument : goal.returns-in-ByArgument
returns-in-ByArgument c = rw c.in-ByArgument.is (laid_on _ _ c.put_numeral-k.ensures c.put_byte-in-ByArgument.ensures)

pub returns-in-ByStar : goal.returns-in-ByStar
returns-in-ByStar c = rw c.in-ByStar.is c.put_byte-in-ByStar.ensures
