-- `totals::add_star` meets its contract: by the precision; a star counts once in its line.
use mathlib.Core.Path.{sym}
use Rattle.seasons.specs.TotalLaws.{added_none}
use Rattle.totals.proofs.add_star.Goals as goal

pub returns-in-Implied : goal.returns-in-Implied
returns-in-Implied c = rw c.in-Implied.is (sym (added_none 0 _))

pub returns-in-Fixed : goal.returns-in-Fixed
returns-in-Fixed c = rw c.in-Fixed.is (sym (added_none 0 _))

pub returns-in-ByName : goal.returns-in-ByName
returns-in-ByName c = rw c.in-ByName.is (sym (added_none 0 _))

pub returns-in-ByArgument : goal.returns-in-ByArgument
returns-in-ByArgument c = rw c.in-ByArgument.is (sym (added_none 0 _))

pub returns-in-ByStar : goal.returns-in-ByStar
returns-in-ByStar c = rw c.in-ByStar.is c.count_in.ensures
