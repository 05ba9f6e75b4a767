-- `passing::after::after_star` meets its contract: it is the definition.
use Rattle.utf8.specs.Choice.{pick}
use Rattle.quick.specs.Tellings.{after_star}
use Rattle.passing.proofs.Afters.{not_star}
use Rattle.passing.proofs.after.after_star.Goals as goal

pub returns-in-Star : goal.returns-in-Star
unfolding pick after_star
returns-in-Star c = rw c.in-Star.is

pub returns-in_default : goal.returns-in_default
unfolding pick after_star
returns-in_default c = rw (not_star _ c.in_default.not-Star)
