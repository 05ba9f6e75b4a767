-- The shapes with their numbers are what the line has.
use Rattle.std.proofs.Common.{rules, ◌≡◌, ℕ, [], ◌∷◌, ◌++◌, decimal, refl, append_assoc, ◌∙◌}
use Rattle.utf8.specs.Choice.{pick}
use Rattle.listing.specs.Shapes.{shaped}
use Rattle.listing.proofs.short_error.Goals as goal

numbers : (a b c d : ℕ) → shaped (35 ∷ 32 ∷ 35 ∷ 32 ∷ []) a b ++ shaped (35 ∷ 32 ∷ 35 ∷ 10 ∷ []) c d ≡ decimal a ++ (32 ∷ (decimal b ++ (32 ∷ (decimal c ++ (32 ∷ (decimal d ++ (10 ∷ [])))))))
unfolding shaped pick
numbers a b c d = append_assoc (decimal a) (32 ∷ (decimal b ++ (32 ∷ []))) _ ∙ rw (append_assoc (decimal b) (32 ∷ []) (shaped (35 ∷ 32 ∷ 35 ∷ 10 ∷ []) c d)) refl

pub returns : goal.returns
returns g c = rw (numbers c.args.e.kind c.args.e.span.start.0 c.args.e.span.end.0 c.args.e.piece) (search rules)
