-- A part that may be absent, made of another value, is listed as that value is.
use Rattle.std.proofs.Common.{◌≡◌, ℕ, List, Option, Some, None, ap}
use Rattle.std.specs.Prelude.{MatchOption, IsSomeAnd}
use Rattle.listing.specs.Parts.{or_dash, output_or_dash}

pub or_dash_map : {A B : Type 0} (to : A → B) (listed : B → List ℕ) (o : Option A) (r : Option B) → MatchOption o (r ≡ None) (λ x. IsSomeAnd r (λ y. y ≡ to x)) →
    output_or_dash (λ y. Some (listed y)) r ≡ Some (or_dash (λ x. listed (to x)) o)
or_dash_map to listed None r h = ap (output_or_dash (λ y. Some (listed y))) h
or_dash_map to listed (Some x) None h = absurd h
or_dash_map to listed (Some x) (Some y) h = ap (λ z. Some (listed z)) h

pub or_dash_held : {A B : Type 0} (held : B → A) (listed : A → List ℕ) (o : Option A) (r : Option B) → MatchOption o (r ≡ None) (λ x. IsSomeAnd r (λ y. held y ≡ x)) →
    output_or_dash (λ y. Some (listed (held y))) r ≡ Some (or_dash listed o)
or_dash_held held listed None r h = ap (output_or_dash (λ y. Some (listed (held y)))) h
or_dash_held held listed (Some x) None h = absurd h
or_dash_held held listed (Some x) (Some y) h = ap (λ z. Some (listed z)) h
