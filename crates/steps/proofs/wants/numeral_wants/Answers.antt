-- `steps::wants::numeral_wants` meets its contract: a number of two bytes has one after it.
use Rattle.steps.proofs.wants.numeral_wants.Goals as goal

pub returns-in-Within : goal.returns-in-Within
returns-in-Within c = rw c.in-Within.is
