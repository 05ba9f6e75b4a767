-- A placeholder that is told without a flaw, as it is met: its place and its counts by their tags. Rests on Meetings, passing's After and quick's Tellings.
use Prim.Native.Nat.{ℕ, ◌+◌, ◌≤◌}
use mathlib.Core.Path.{◌≡◌, refl}
use mathlib.Core.Bool.{Bool, true, false}
use mathlib.Core.List.{List}
use native.Mathlib.Omega.{arith}
use borrow.Author.Tests.{eqb-true, eqb-false, lt-ltb, le-ltb}
use lib.Dec.{eqb, ltb}
use Rattle.utf8.specs.Choice.{pick, either}
use Rattle.frame.specs.declared.Frame.{Frame}
use Rattle.reading.specs.declared.Step.{Step}
use Rattle.membership.specs.Members.{is_taken}
use Rattle.quick.specs.Tellings.{count_found, width_of, precision_of, after_star, spec_of, argument_of, told_read}
use Rattle.quick.specs.declared.CountKind.{CountKind}
use Rattle.quick.specs.declared.CountPart.{CountPart}
use Rattle.quick.specs.declared.PlaceholderTold.{PlaceholderTold}
use Rattle.passing.specs.After.{place_of}
use Rattle.member.specs.Meetings.{sorts_at, met_after, met_step, kind_taken, taken_told}
use Rattle.member.specs.declared.Met.{Met}

-- A COUNT
found_taken : (t : List ℕ) (f : Frame) (n from end : ℕ) (k : CountKind) → is_taken (count_found t f n from end k) ≡ kind_taken k
found_taken t f n from end CountKind.Nothing = refl
found_taken t f n from end (CountKind.Number v) = refl
found_taken t f n from end (CountKind.Argument v) = refl
found_taken t f n from end CountKind.Star = refl
found_taken t f n from end CountKind.Name = refl
found_taken t f n from end CountKind.Dot = refl

width_taken : (t : List ℕ) (f : Frame) (n from : ℕ) (p : CountPart) → is_taken (width_of t f n from p) ≡ kind_taken p.kind
unfolding width_of
width_taken t f n from p = found_taken t f n from p.end p.kind

-- and a precision
precision_taken : (t : List ℕ) (f : Frame) (n dot : ℕ) (p : CountPart) → is_taken (precision_of t f n dot p) ≡ kind_taken p.kind
unfolding precision_of
precision_taken t f n dot p = width_taken t f n (dot + 1) p

module _ (t : List ℕ) (f : Frame) (brace n : ℕ) (x : PlaceholderTold) where
  -- its counts
  taken_told_lem : taken_told x ≡ either (is_taken (argument_of t f brace n x).spec.width) (is_taken (argument_of t f brace n x).spec.precision)
  unfolding taken_told argument_of spec_of pick
  taken_told_lem = go x.colon refl
    where
      go : (b : Bool) → x.colon ≡ b →
          taken_told x ≡ either (is_taken (argument_of t f brace n x).spec.width) (is_taken (argument_of t f brace n x).spec.precision)
      go false e = rw e
      go true e = rw (e, width_taken t f n x.spec.from x.spec.width, precision_taken t f n x.spec.width.end x.spec.precision)

  place_met : (m : Met) →
      met_step t m (Step.Placeholder (told_read t f brace n x)) ≡
      met_after m
      (sorts_at t (place_of (brace + 1) x.place (after_star n x.spec.precision))
      (either (is_taken (argument_of t f brace n x).spec.width) (is_taken (argument_of t f brace n x).spec.precision)))
  unfolding told_read argument_of place_of
  place_met m = refl

  -- THE PLACEHOLDER as it is met
  pub told_met : (m : Met) →
      met_step t m (Step.Placeholder (told_read t f brace n x)) ≡ met_after m (sorts_at t (place_of (brace + 1) x.place (after_star n x.spec.precision)) (taken_told x))
  told_met m = rw taken_told_lem (place_met m)
