-- `flawless::short::short_of` meets its contract.
use mathlib.Core.Path.{refl, sym, ◌∙◌}
use Rattle.flawless.proofs.short.short_of.Goals as goal

pub returns : goal.returns
returns c = record { parts = refl; brace = sym c.byte.ensures ∙ c.if-byte-ne125.false }
