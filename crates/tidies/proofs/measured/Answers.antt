-- `tidies::measured` meets its contract: where the pen stands after a plain form is how many bytes it has, whatever it is laid into.
use native.Mathlib.Omega.{arith}
use Rattle.tidies.proofs.PlacedLaws.{ready_asked}
use Rattle.tidies.proofs.measured.Goals as goal

pub put_text-requires : goal.put_text-requires
put_text-requires c = ready_asked c.requires

pub returns : goal.returns
returns c = omega (arith, c.put_text.ensures.place)
