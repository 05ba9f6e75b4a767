-- `totals::add_faults` meets its contract: of a clear step nothing is wrong, and nothing is counted.
use mathlib.Core.Path.{refl, sym}
use Rattle.reading.specs.Lists.{gather}
use Rattle.reading.specs.Faults.{faults_of}
use Rattle.seasons.specs.TotalLaws.{added_none}
use Rattle.totals.proofs.add_faults.Goals as goal

pub returns-then-is_clear : goal.returns-then-is_clear
unfolding faults_of gather
returns-then-is_clear c = rw (c.is_clear.ensures c.if-is_clear.true) (sym (added_none 0 _), refl)
