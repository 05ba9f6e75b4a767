-- The shape with its numbers is what the line has behind its label.
use Rattle.std.proofs.Common.{◌≡◌, ℕ, [], ◌∷◌, ◌++◌, decimal, refl}
use Rattle.utf8.specs.Choice.{pick}
use Rattle.listing.specs.Shapes.{shaped}
use Rattle.listing.proofs.Joins.{more}
use Rattle.listing.proofs.pair_line.Goals as goal

ends : (start end : ℕ) → shaped (32 ∷ 35 ∷ 46 ∷ 46 ∷ 35 ∷ 10 ∷ []) start end ≡ 32 ∷ (decimal start ++ (46 ∷ 46 ∷ (decimal end ++ (10 ∷ []))))
unfolding shaped pick
ends start end = refl

pub returns : goal.returns
returns g c = rw (ends c.args.start c.args.end) (more c.writeln.result _ _ _ _ _ c.in_ok-write_all.ensures.bytes c.writeln.ensures.bytes)
