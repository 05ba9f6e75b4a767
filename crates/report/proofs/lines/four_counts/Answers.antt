-- The shapes with their numbers, one after the other, are what is written.
use Rattle.std.proofs.Common.{rules, ◌≡◌, ℕ, ◌∷◌, ◌++◌, codes, decimal, refl, append_assoc, append-nil, ap}
use Rattle.utf8.specs.Choice.{pick}
use Rattle.listing.specs.Shapes.{shaped}
use Rattle.report.proofs.lines.four_counts.Goals as goal

pair : (a b : ℕ) → shaped (codes " # #") a b ≡ 32 ∷ (decimal a ++ (32 ∷ decimal b))
unfolding shaped pick
pair a b = rw (append-nil (decimal b)) refl

four : (a b c d : ℕ) → shaped (codes " # #") a b ++ shaped (codes " # #") c d ≡ 32 ∷ (decimal a ++ (32 ∷ (decimal b ++ (32 ∷ (decimal c ++ (32 ∷ decimal d))))))
four a b c d = rw (pair a b, pair c d) (ap (λ l. 32 ∷ l) (append_assoc (decimal a) (32 ∷ decimal b) (32 ∷ (decimal c ++ (32 ∷ decimal d)))))

pub returns : goal.returns
returns g c = let k = c.args.counts in rw (four k.pieces k.errors k.places k.lines) (search rules)
