-- Laws of the figure that pieces want: of the larger of two numbers, of joined lists, and that no number which a step takes is large.
-- Rests on Wants, Numbered and the parts of a placeholder.
use Rattle.std.specs.Prelude.{ℕ, ◌+◌, ◌≤◌, ◌<◌, ◌≡◌, List, [], ◌∷◌, ◌++◌, ltb, Option, Some, None}
use Rattle.std.proofs.Common.{sym, subst, arith, ltb-true, ltb-false}
use Rattle.utf8.specs.ChoiceLaws.{pick_elim}
use Rattle.frame.specs.declared.Frame.{Frame}
use Rattle.frame.specs.declared.Mode.{Mode}
use Rattle.frame.specs.declared.TextPlace.{TextPlace}
use Rattle.scan.specs.Characters.{spaces_past}
use Rattle.scan.specs.Words.{number_read}
use Rattle.scan.specs.Counts.{number_count, name_count, count_after, count_read}
use Rattle.scan.specs.declared.CountRead.{CountRead}
use Rattle.placeholder.specs.Parts.{plain_width, width_read, after_dot, precision_read}
use Rattle.placeholder.specs.Places.{place_read}
use Rattle.placeholder.specs.Format.{format_read}
use Rattle.placeholder.specs.Specs.{after_colon, spec_read}
use Rattle.placeholder.specs.Arguments.{resolved, argument_read}
use Rattle.placeholder.specs.BoundLaws.{spec_next}
use Rattle.placeholder.specs.declared.format.PrecisionRead.{PrecisionRead}
use Rattle.placeholder.specs.declared.format.SpecRead.{SpecRead}
use Rattle.placeholder.specs.declared.format.WidthRead.{WidthRead}
use Rattle.placeholder.specs.declared.position.Found.{Found}
use Rattle.closing.specs.Wholes.{missing_read, placeholder_read}
use Rattle.closing.specs.declared.whole.PlaceholderRead.{PlaceholderRead}
use Rattle.reading.specs.Wants.{larger, piece_wants, wants}
use Rattle.reading.specs.Steps.{after_open, after_close, step_at}
use Rattle.reading.specs.declared.Piece.{Piece}
use Rattle.reading.specs.declared.State.{State}
use Rattle.reading.specs.declared.Step.{Step}
use Rattle.laws.specs.Numbered.{FewPlace, FewCount, FewArgument, Few}
use Rattle.scan.specs.declared.Numeral.{Numeral}

-- THE LARGER OF TWO NUMBERS is one of them, and not below the other
pub larger_elim : (P : ℕ → Type 0) (a b : ℕ) → (b ≤ a → P a) → (a < b → P b) → P (larger a b)
unfolding larger
larger_elim P a b f g = pick_elim P (ltb a b) (λ e. g (ltb-true a b e)) (λ e. f (ltb-false a b e))

pub larger_left : (a b : ℕ) → a ≤ larger a b
larger_left a b = larger_elim (λ n. a ≤ n) a b (λ _. omega arith) (λ l. omega (arith, l))

pub larger_right : (a b : ℕ) → b ≤ larger a b
larger_right a b = larger_elim (λ n. b ≤ n) a b (λ l. l) (λ _. omega arith)

-- it is the least such
pub larger_least : {a b n : ℕ} → a ≤ n → b ≤ n → larger a b ≤ n
larger_least {a} {b} {n} x y = larger_elim (λ k. k ≤ n) a b (λ _. x) (λ _. y)

-- nothing adds nothing
pub larger_none : (a : ℕ) → larger a 0 ≡ a
larger_none a = omega (arith, larger_left a 0, larger_least {a = a} {b = 0} {n = a} (omega arith) (omega arith))

pub larger_first : (a : ℕ) → larger 0 a ≡ a
larger_first a = omega (arith, larger_right 0 a, larger_least {a = 0} {b = a} {n = a} (omega arith) (omega arith))

-- in any order
pub larger_assoc : (a b c : ℕ) → larger (larger a b) c ≡ larger a (larger b c)
larger_assoc a b c =
    let inner = larger_left b c in
    let outer = larger_right a (larger b c) in
    let one : larger (larger a b) c ≤ larger a (larger b c) =
    larger_least (larger_least (larger_left a (larger b c)) (omega (arith, inner, outer))) (omega (arith, larger_right b c, outer)) in
    let left = larger_left (larger a b) c in
    let other : larger a (larger b c) ≤ larger (larger a b) c =
    larger_least (omega (arith, larger_left a b, left)) (larger_least (omega (arith, larger_right a b, left)) (larger_right (larger a b) c)) in
    omega (arith, one, other)

-- WHAT JOINED PIECES WANT is the larger of both
pub wants_append : (xs ys : List Piece) → wants (xs ++ ys) ≡ larger (wants xs) (wants ys)
unfolding wants
wants_append [] ys = sym (larger_first (wants ys))
wants_append (x ∷ xs) ys = rw (wants_append xs ys, larger_assoc (piece_wants x) (wants xs) (wants ys))

-- NO NUMBER THAT A STEP TAKES IS LARGE: a count that is no star has none
module _ (t : List ℕ) (f : Frame) where
  count_few : (at : TextPlace) → FewCount (count_read t f at).count
  unfolding count_read number_count name_count
  count_few at = go (number_read t at).number
    where
      go : (x : Option Numeral) → FewCount (count_after t f at (number_read t at) x).count
      go (Some n) = pick_elim (λ (r : CountRead). FewCount r.count) _ (λ _. tt) (λ _. tt)
      go None =
          let P : CountRead → Type 0 = λ r. FewCount r.count in
          pick_elim P _ (λ _. tt) (λ _. pick_elim P _ (λ _. tt) (λ _. tt))

  width_few : (at : TextPlace) → FewCount (width_read t f at).width
  unfolding width_read plain_width
  width_few at =
      let P : WidthRead → Type 0 = λ r. FewCount r.width in
      pick_elim P _ (λ _. pick_elim P _ (λ _. tt) (λ _. count_few _)) (λ _. count_few at)

  module _ (n : ℕ) (few : n < 0xFFFFE) where
    -- a star takes the next number
    precision_few : (at : TextPlace) → FewCount (precision_read t f at n).precision
    unfolding precision_read after_dot
    precision_few at =
        let P : PrecisionRead → Type 0 = λ r. FewCount r.precision in
        pick_elim P _ (λ _. pick_elim P _ (λ _. omega (arith, few)) (λ _. count_few _)) (λ _. tt)

    spec_width : (m : Mode) (at : TextPlace) → FewCount (spec_read t f m at n).spec.width
    unfolding spec_read format_read
    spec_width m at = pick_elim (λ (r : SpecRead). FewCount r.spec.width) _ (λ _. go m _) (λ _. tt)
      where
        go : (m : Mode) (to : TextPlace) → FewCount (after_colon t f m at to n).spec.width
        go Mode.Format to = width_few _
        go Mode.InlineAsm to = tt
        go Mode.Diagnostic to = tt

    spec_precision : (m : Mode) (at : TextPlace) → FewCount (spec_read t f m at n).spec.precision
    unfolding spec_read format_read
    spec_precision m at = pick_elim (λ (r : SpecRead). FewCount r.spec.precision) _ (λ _. go m _) (λ _. tt)
      where
        go : (m : Mode) (to : TextPlace) → FewCount (after_colon t f m at to n).spec.precision
        go Mode.Format to = precision_few _
        go Mode.InlineAsm to = tt
        go Mode.Diagnostic to = tt

    -- and so does a place that is not written
    argument_place : (m : Mode) (at : TextPlace) → FewPlace (argument_read t f m at n).place
    unfolding argument_read
    argument_place m at =
        let to = spaces_past t (place_read t at).at in
        go (place_read t at).found (spec_read t f m to n).next (spec_next t f m to n)
      where
        go : (x : Found) (k : ℕ) → k ≤ n + 1 → FewPlace (resolved x k).place
        go Found.Nothing k l = omega (arith, few, l)
        go (Found.Number i) k l = tt
        go (Found.Word r) k l = tt

    placeholder_few : (m : Mode) (brace at : TextPlace) → FewArgument (placeholder_read t f m brace at n).argument
    unfolding placeholder_read missing_read argument_read
    placeholder_few m brace at =
        let P : PlaceholderRead → Type 0 = λ r. FewArgument r.argument in
        let to = spaces_past t (place_read t at).at in
        let place = argument_place m at in
        let width = spec_width m to in
        let precision = spec_precision m to in
        pick_elim P _
        (λ _. record { place = place; width = width; precision = precision })
        (λ _. record { place = place; width = width; precision = precision })

-- so no number of a step from a state whose own is not large
pub few_step : (t : List ℕ) (f : Frame) (m : Mode) (s : State) {x : Step} → s.next < 0xFFFFE → x ≡ step_at t f m s → Few x
unfolding step_at after_open after_close
few_step t f m s few e =
    subst Few (sym e)
    (pick_elim Few _
    (λ _.
    pick_elim Few _ (λ _. pick_elim Few _ (λ _. tt) (λ _. placeholder_few t f s.next few m s.at _))
    (λ _. pick_elim Few _ (λ _. pick_elim Few _ (λ _. tt) (λ _. tt)) (λ _. tt)))
    (λ _. tt))
