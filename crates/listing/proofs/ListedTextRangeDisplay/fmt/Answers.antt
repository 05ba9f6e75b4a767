-- The shape with its numbers is what is written; nothing stands behind the second number.
use Rattle.std.proofs.Common.{◌≡◌, ℕ, ◌++◌, codes, decimal, rules, refl, append-nil}
use Rattle.utf8.specs.Choice.{pick}
use Rattle.listing.specs.Shapes.{shaped}
use Rattle.listing.proofs.ListedTextRangeDisplay.fmt.Goals as goal

places : (start end : ℕ) → shaped (codes "# #") start end ≡ decimal start ++ (codes " " ++ decimal end)
unfolding shaped pick
places start end = rw (append-nil (decimal end)) refl

pub returns : goal.returns
returns g c = let range = c.args.self.now.0 in rw (places range.start.0 range.end.0) (search rules)
