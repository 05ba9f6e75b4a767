-- `scan::count_at` meets its contract: it is the definition, call by call.
use Rattle.scan.specs.Counts.{count_read}
use Rattle.scan.proofs.count_at.Goals as goal

pub returns-in-Some : goal.returns-in-Some
unfolding count_read
returns-in-Some c =
    rw (← c.integer-read.ensures, c.in-Some.is, ← c.number_count.ensures)

pub returns-in-None : goal.returns-in-None
unfolding count_read
returns-in-None c =
    rw (← c.integer-read.ensures, c.in-None.is, ← c.name_count.ensures)
