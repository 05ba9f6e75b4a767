-- `writing::put_faults` meets its contract: of a clear step nothing is wrong, so nothing is noted.
use mathlib.Core.Path.{refl}
use Rattle.reading.specs.Faults.{marked}
use Rattle.writing.specs.StepsWritten.{notes, noticed}
use Rattle.writing.proofs.put_faults.Goals as goal

pub returns-then-is_clear : goal.returns-then-is_clear
unfolding notes noticed marked
returns-then-is_clear c = record { pieces = refl; noted = rw (c.is_clear.ensures c.if-is_clear.true) }
