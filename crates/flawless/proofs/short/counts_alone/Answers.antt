-- `flawless::short::counts_alone` meets its contract: a width and a precision that are told, up to the closing brace.
use Rattle.flawless.proofs.Shortening.{counts_closed, width_inside}
use Rattle.flawless.proofs.short.counts_alone.Goals as goal

pub short_precision-requires : goal.short_precision-requires
short_precision-requires c = record { within = width_inside c.requires.0 c.in_ok-width.ensures; small = c.requires.0.small }

pub returns : goal.returns
returns c = counts_closed _ c.requires.0 c.in_ok-width.ensures c.in_ok-precision.ensures c.no_type.ensures c.short_of.ensures
