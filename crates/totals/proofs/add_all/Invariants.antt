-- `totals::add_all` meets its contract: the invariant (`Taken`) says which texts are passed, that their totals are at hand, and that the list begins with them whatever it is.
use Rattle.std.specs.Prelude.{ℕ, ◌+◌}
use mathlib.Core.Path.{◌≡◌}
use lib.ListN.{length}
use Rattle.totals.proofs.Takings.{Taken}
use Rattle.totals.proofs.add_all.Given as goal

abbrev pub invariant-loop : goal.invariant-loop
invariant-loop l = (left : ℕ) × (l.counter + left ≡ l.count) × Taken l.bytes l.count l.totals l.at left × (length l.initial.totals ≡ 24)
