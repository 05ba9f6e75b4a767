-- The shape with its numbers is what is written; nothing stands behind the second number.
use Rattle.std.proofs.Common.{◌≡◌, ℕ, ◌++◌, codes, decimal, rules, refl, append-nil}
use Rattle.utf8.specs.Choice.{pick}
use Rattle.listing.specs.Shapes.{shaped}
use Rattle.listing.proofs.EndsDisplay.fmt.Goals as goal

ends_of : (start end : ℕ) → shaped (codes "#..#") start end ≡ decimal start ++ (codes ".." ++ decimal end)
unfolding shaped pick
ends_of start end = rw (append-nil (decimal end)) refl

pub returns : goal.returns
returns g c = let ends = c.args.self.now in rw (ends_of ends.start ends.end) (search rules)
