-- Where reading stands after what is told: the place and the counts, what they want, and that it is what the argument wants.
-- Rests on After, quick's Tellings and `laws`' WantLaws.
use Prim.Native.Nat.{ℕ, ◌+◌, ◌≤◌}
use mathlib.Core.Path.{◌≡◌, refl, sym, ap, ◌∙◌}
use mathlib.Core.Bool.{Bool, true, false}
use mathlib.Core.List.{List}
use native.Mathlib.Omega.{arith}
use Rattle.utf8.specs.Choice.{pick}
use Rattle.utf8.specs.ChoiceLaws.{pick_elim}
use Rattle.frame.specs.Places.{place}
use Rattle.frame.specs.declared.Frame.{Frame}
use Rattle.placeholder.specs.Arguments.{resolved}
use Rattle.placeholder.specs.Specs.{no_spec}
use Rattle.placeholder.specs.declared.Spec.{Spec}
use Rattle.placeholder.specs.declared.position.Found.{Found}
use Rattle.reading.specs.Steps.{state_of}
use Rattle.reading.specs.Wants.{larger, place_wants, count_wants, argument_wants}
use Rattle.laws.specs.WantLaws.{larger_left, larger_right, larger_least, larger_none, larger_assoc}
use Rattle.reading.specs.declared.State.{State}
use Rattle.quick.specs.Tellings.{place_found, found_of, count_found, width_of, precision_of, is_star, after_star, spec_of, argument_of, next_of}
use Rattle.quick.specs.PartsTold.{count_none}
use Rattle.quick.specs.declared.PlaceKind.{PlaceKind}
use Rattle.quick.specs.declared.PlacePart.{PlacePart}
use Rattle.quick.specs.declared.CountKind.{CountKind}
use Rattle.quick.specs.declared.CountPart.{CountPart}
use Rattle.quick.specs.declared.PlaceholderTold.{PlaceholderTold}
use Rattle.passing.specs.After.{place_of, kind_wants, with_counts, told_state}

-- A COUNT that is no star
pub not_star : (k : CountKind) → (k ≡ CountKind.Star → ⊥) → is_star k ≡ false
not_star CountKind.Nothing n = refl
not_star (CountKind.Number v) n = refl
not_star (CountKind.Argument v) n = refl
not_star CountKind.Star n = absurd (n refl)
not_star CountKind.Name n = refl
not_star CountKind.Dot n = refl

-- NUMBERS OF ARGUMENTS: a star takes one at most
pub star_few : (n : ℕ) (p : CountPart) → after_star n p ≤ n + 1
unfolding after_star
star_few n p = pick_elim (λ (m : ℕ). m ≤ n + 1) (is_star p.kind) (λ _. omega arith) (λ _. omega arith)

-- and none where there is no precision
pub star_none : (n : ℕ) {p : CountPart} {at : ℕ} → p ≡ count_none at → after_star n p ≡ n
unfolding after_star pick
star_none n e = rw e

-- A COUNT that is taken from no argument wants none
pub wants_none : (n : ℕ) (k : CountKind) → ((v : ℕ) → k ≡ CountKind.Argument v → ⊥) → (k ≡ CountKind.Star → ⊥) → kind_wants n k ≡ 0
wants_none n CountKind.Nothing a b = refl
wants_none n (CountKind.Number v) a b = refl
wants_none n (CountKind.Argument v) a b = absurd (a v refl)
wants_none n CountKind.Star a b = absurd (b refl)
wants_none n CountKind.Name a b = refl
wants_none n CountKind.Dot a b = refl

-- THE STATE by the place: nothing, a number, a word
module _ (s : State) (x : PlaceholderTold) where
  abbrev starred : ℕ
  starred = after_star s.next x.spec.precision

  abbrev figure : ℕ
  figure = with_counts s.next s.arguments x

  abbrev standing : Found → State
  standing o = state_of (place x.on) (resolved o starred).next (larger figure (place_wants (resolved o starred).place))

  found_here : {k : PlaceKind} → x.place.kind ≡ k → place_found 0 x.place.end k ≡ found_of 0 x.place
  unfolding found_of
  found_here e = ap (place_found 0 x.place.end) (sym e)

  pub state_implied : x.place.kind ≡ PlaceKind.Nothing → state_of (place x.on) (starred + 1) (larger figure (starred + 1)) ≡ told_state s x
  unfolding told_state next_of place_of
  state_implied e = ap standing (found_here e)

  pub state_number : {v : ℕ} → x.place.kind ≡ PlaceKind.Number v → state_of (place x.on) starred (larger figure (v + 1)) ≡ told_state s x
  unfolding told_state next_of place_of
  state_number e = ap standing (found_here e)

  pub state_named : x.place.kind ≡ PlaceKind.Word → state_of (place x.on) starred figure ≡ told_state s x
  unfolding told_state next_of place_of
  state_named e = ap (λ (n : ℕ). state_of (place x.on) starred n) (sym (larger_none figure)) ∙ ap standing (found_here e)

-- WHAT A PLACE WANTS, wherever it stands
same_place : (a b k : ℕ) (p : PlacePart) → place_wants (place_of a p k) ≡ place_wants (place_of b p k)
unfolding place_of found_of
same_place a b k p = go p.kind
  where
    go : (o : PlaceKind) → place_wants (resolved (place_found a p.end o) k).place ≡ place_wants (resolved (place_found b p.end o) k).place
    go PlaceKind.Nothing = refl
    go (PlaceKind.Number v) = refl
    go PlaceKind.Word = refl

-- and a count
found_wants : (t : List ℕ) (f : Frame) (n from end : ℕ) (k : CountKind) → count_wants (count_found t f n from end k) ≡ kind_wants n k
found_wants t f n from end CountKind.Nothing = refl
found_wants t f n from end (CountKind.Number v) = refl
found_wants t f n from end (CountKind.Argument v) = refl
found_wants t f n from end CountKind.Star = refl
found_wants t f n from end CountKind.Name = refl
found_wants t f n from end CountKind.Dot = refl

width_wants_lem : (t : List ℕ) (f : Frame) (n from : ℕ) (p : CountPart) → count_wants (width_of t f n from p) ≡ kind_wants n p.kind
unfolding width_of
width_wants_lem t f n from p = found_wants t f n from p.end p.kind

precision_wants_lem : (t : List ℕ) (f : Frame) (n dot : ℕ) (p : CountPart) → count_wants (precision_of t f n dot p) ≡ kind_wants n p.kind
unfolding precision_of
precision_wants_lem t f n dot p = width_wants_lem t f n (dot + 1) p

-- the larger of three in another order
turned : (a p s : ℕ) → larger a (larger p s) ≡ larger (larger a s) p
turned a p s =
    let inner = larger_left a s in
    let second = larger_right a s in
    let outer = larger_left (larger a s) p in
    let one : larger a (larger p s) ≤ larger (larger a s) p =
    larger_least (omega (arith, inner, outer)) (larger_least (larger_right (larger a s) p) (omega (arith, second, outer))) in
    let whole = larger_right a (larger p s) in
    let other : larger (larger a s) p ≤ larger a (larger p s) =
    larger_least (larger_least (larger_left a (larger p s)) (omega (arith, larger_right p s, whole))) (omega (arith, larger_left p s, whole)) in
    omega (arith, one, other)

-- WHAT IS TOLD WANTS WHAT ITS ARGUMENT WANTS, beside any figure
pub told_wants : (t : List ℕ) (f : Frame) (brace n a : ℕ) (x : PlaceholderTold) →
    larger a (argument_wants (argument_of t f brace n x)) ≡ larger (with_counts n a x) (place_wants (place_of 0 x.place (after_star n x.spec.precision)))
unfolding argument_wants argument_of spec_of with_counts place_of pick
told_wants t f brace n a x = go x.colon
  where
    k : ℕ
    k = after_star n x.spec.precision

    own : ℕ → ℕ
    own at = place_wants (place_of at x.place k)

    wide : ℕ
    wide = kind_wants n x.spec.width.kind

    precise : ℕ
    precise = kind_wants n x.spec.precision.kind

    go : (b : Bool) →
        let s : Spec = pick b (spec_of t f (x.to + 1) n x.spec) (no_spec (place x.to) n).spec in
        larger a (larger (own (brace + 1)) (larger (count_wants s.width) (count_wants s.precision))) ≡
        larger (pick b (larger (larger a wide) precise) a) (own 0)
    go true =
        ap (λ (p : ℕ). larger a (larger p (larger (count_wants (width_of t f n x.spec.from x.spec.width)) (count_wants (precision_of t f n x.spec.width.end x.spec.precision))))) (same_place (brace + 1) 0 k x.place)
        ∙ ap (λ (w : ℕ). larger a (larger (own 0) (larger w (count_wants (precision_of t f n x.spec.width.end x.spec.precision))))) (width_wants_lem t f n x.spec.from x.spec.width)
        ∙ ap (λ (w : ℕ). larger a (larger (own 0) (larger wide w))) (precision_wants_lem t f n x.spec.width.end x.spec.precision)
        ∙ turned a (own 0) (larger wide precise)
        ∙ ap (λ (c : ℕ). larger c (own 0)) (sym (larger_assoc a wide precise))
    go false =
        ap (λ (p : ℕ). larger a (larger p (larger 0 0))) (same_place (brace + 1) 0 k x.place)
        ∙ ap (λ (c : ℕ). larger a (larger (own 0) c)) (larger_none 0)
        ∙ ap (larger a) (larger_none (own 0))
