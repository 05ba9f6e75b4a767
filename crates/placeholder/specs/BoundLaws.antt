-- How far the next argument's number moves: by one over a spec, which has at most one star, and by one more over a place; and that no more is
-- given back than the text has bytes, for each of two counts. Rests on Parts, Format, Specs and Arguments.
use Rattle.std.specs.Prelude.{ℕ, ◌+◌, ◌*◌, ◌≤◌, List}
use Rattle.std.proofs.Common.{arith}
use Rattle.std.proofs.Math.ListN.{length}
use Rattle.utf8.specs.ChoiceLaws.{pick_elim}
use Rattle.frame.specs.declared.TextPlace.{TextPlace}
use Rattle.frame.specs.declared.Frame.{Frame}
use Rattle.scan.specs.Characters.{spaces_past}
use Rattle.scan.specs.ReachLaws.{count_given}
use Rattle.placeholder.specs.Parts.{plain_width, width_read, after_dot, precision_read}
use Rattle.placeholder.specs.Format.{format_read}
use Rattle.placeholder.specs.Places.{place_read}
use Rattle.placeholder.specs.Specs.{after_colon, spec_read}
use Rattle.placeholder.specs.Arguments.{resolved, argument_read}
use Rattle.frame.specs.declared.Mode.{Mode}
use Rattle.placeholder.specs.declared.position.Found.{Found}
use Rattle.placeholder.specs.declared.format.PrecisionRead.{PrecisionRead}
use Rattle.placeholder.specs.declared.format.WidthRead.{WidthRead}
use Rattle.placeholder.specs.declared.format.SpecRead.{SpecRead}

module _ (t : List ℕ) (f : Frame) where
  -- a star takes one argument
  pub after_dot_next : (dot at : TextPlace) (n : ℕ) → (after_dot t f dot at n).next ≤ n + 1
  unfolding after_dot
  after_dot_next dot at n = pick_elim (λ (r : PrecisionRead). r.next ≤ n + 1) _ (λ _. omega arith) (λ _. omega arith)

  -- a precision takes at most one
  pub precision_next : (at : TextPlace) (n : ℕ) → (precision_read t f at n).next ≤ n + 1
  unfolding precision_read
  precision_next at n = pick_elim (λ (r : PrecisionRead). r.next ≤ n + 1) _ (λ _. after_dot_next at _ n) (λ _. omega arith)

  -- and so does a Format spec
  pub format_next : (at : TextPlace) (n : ℕ) → (format_read t f at n).next ≤ n + 1
  unfolding format_read
  format_next at n = precision_next _ n

  -- after a colon, in any mode
  after_colon_next : (m : Mode) (colon at : TextPlace) (n : ℕ) → (after_colon t f m colon at n).next ≤ n + 1
  after_colon_next Mode.Format colon at n = format_next at n
  after_colon_next Mode.InlineAsm colon at n = omega arith
  after_colon_next Mode.Diagnostic colon at n = omega arith

  -- a spec takes at most one argument
  pub spec_next : (m : Mode) (at : TextPlace) (n : ℕ) → (spec_read t f m at n).next ≤ n + 1
  unfolding spec_read
  spec_next m at n = pick_elim (λ (r : SpecRead). r.next ≤ n + 1) _ (λ _. after_colon_next m at _ n) (λ _. omega arith)

-- a place takes at most one
pub resolved_next : (x : Found) (n : ℕ) → (resolved x n).next ≤ n + 1
resolved_next Found.Nothing n = omega arith
resolved_next (Found.Number k) n = omega arith
resolved_next (Found.Word r) n = omega arith

-- what stands between two braces takes at most two
pub argument_next : (t : List ℕ) (f : Frame) (m : Mode) (at : TextPlace) (n : ℕ) → (argument_read t f m at n).next ≤ n + 2
unfolding argument_read
argument_next t f m at n =
    let to = spaces_past t (place_read t at).at in
    omega (arith, resolved_next (place_read t at).found (spec_read t f m to n).next, spec_next t f m to n)

module _ (t : List ℕ) (f : Frame) where
  -- a width gives back what its count does
  pub width_given : (at : TextPlace) → (width_read t f at).given ≤ length t
  unfolding width_read plain_width
  width_given at =
      let P : WidthRead → Type 0 = λ r. r.given ≤ length t in
      pick_elim P _ (λ _. pick_elim P _ (λ _. omega arith) (λ _. count_given t f _)) (λ _. count_given t f at)

  -- and so does a precision
  pub precision_given : (at : TextPlace) (n : ℕ) → (precision_read t f at n).given ≤ length t
  unfolding precision_read after_dot
  precision_given at n =
      let P : PrecisionRead → Type 0 = λ r. r.given ≤ length t in
      pick_elim P _ (λ _. pick_elim P _ (λ _. omega arith) (λ _. count_given t f _)) (λ _. omega arith)

  both_given : {a b : ℕ} → a ≤ length t → b ≤ length t → a + b ≤ 2 * length t
  both_given h g = omega (arith, h, g)

  -- a Format spec what both do
  format_given : (at : TextPlace) (n : ℕ) → (format_read t f at n).given ≤ 2 * length t
  unfolding format_read
  format_given at n = both_given (width_given _) (precision_given _ n)

  after_colon_given : (m : Mode) (colon at : TextPlace) (n : ℕ) → (after_colon t f m colon at n).given ≤ 2 * length t
  after_colon_given Mode.Format colon at n = format_given at n
  after_colon_given Mode.InlineAsm colon at n = omega arith
  after_colon_given Mode.Diagnostic colon at n = omega arith

  spec_given : (m : Mode) (at : TextPlace) (n : ℕ) → (spec_read t f m at n).given ≤ 2 * length t
  unfolding spec_read
  spec_given m at n = pick_elim (λ (r : SpecRead). r.given ≤ 2 * length t) _ (λ _. after_colon_given m at _ n) (λ _. omega arith)

  -- and so all between the braces
  pub argument_given : (m : Mode) (at : TextPlace) (n : ℕ) → (argument_read t f m at n).given ≤ 2 * length t
  unfolding argument_read
  argument_given m at n = spec_given m _ n
