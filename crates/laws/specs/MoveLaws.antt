-- What a reading gave back, and the moves as they are told: each character before the place where reading stopped once, a lone `}` there, and what was given
-- back. That the moves are these is proved in proofs/MovesTold. Rests on Moves, StateLaws and StepLaws, and on the laws of what reading passes.
use Prim.Native.Nat.{ℕ, zero, suc, ◌+◌, ◌-◌, ◌*◌, ◌≤◌, ◌<◌}
use Rattle.std.proofs.Math.Path.{◌≡◌, refl, ap}
use Rattle.std.proofs.Common.{sym, ◌∙◌, arith, lt-ltb, le-ltb, ltb-true, ltb-false, Some, None}
use Rattle.std.specs.Prelude.{Bool, List, [], ◌∷◌, ltb}
use Rattle.std.proofs.Math.Bool.{true, false}
use Rattle.std.proofs.Math.Nat.{add-zero}
use Rattle.std.proofs.Math.ListN.{length}
use Rattle.utf8.specs.Choice.{pick, either}
use Rattle.utf8.specs.ChoiceLaws.{pick_elim}
use Rattle.utf8.specs.Utf8.{peek_at}
use Rattle.utf8.specs.Chars.{Ch, chars_of}
use Rattle.utf8.specs.CharLaws.{peeked, before_more, before_past}
use Rattle.frame.specs.Places.{range_of}
use Rattle.frame.specs.declared.Frame.{Frame}
use Rattle.frame.specs.declared.Mode.{Mode}
use Rattle.frame.specs.declared.TextPlace.{TextPlace}
use Rattle.scan.specs.Characters.{is_at, consumed, text_end}
use Rattle.scan.specs.ScanLaws.{is_at_seen, consumed_is, consumed_some}
use Rattle.scan.specs.ReachLaws.{Reached, reached_none, reached_then, reached_consumed, reached_text, reached_left}
use Rattle.closing.specs.Wholes.{missing_read, placeholder_read}
use Rattle.closing.specs.OnwardLaws.{placeholder_onward, placeholder_given}
use Rattle.closing.specs.declared.whole.PlaceholderRead.{PlaceholderRead}
use Rattle.reading.specs.Lines.{chars_in}
use Rattle.reading.specs.Moves.{brace_at, step_moves, moves_in, moves}
use Rattle.reading.specs.Steps.{after_open, after_close, step_at, onward, follow, steps_from, start, reading}
use Rattle.reading.specs.declared.State.{State}
use Rattle.reading.specs.declared.Step.{Step}
use Rattle.laws.specs.StateLaws.{standing, last_state}
use Rattle.laws.specs.StepLaws.{Later, step_later, steps_none}
use Rattle.laws.specs.WalkLaws.{steps_on, steps_over}

-- WHAT A STEP GAVE BACK, and all the steps of a reading
abbrev pub given_by : Step → ℕ
given_by Step.End = 0
given_by (Step.Stop p) = 0
given_by (Step.Literal r) = 0
given_by (Step.Placeholder p) = p.given

unfoldable pub given_in : List Step → ℕ
given_in [] = 0
given_in (x ∷ xs) = given_by x + given_in xs

unfoldable pub given : List ℕ → Frame → Mode → ℕ
given t f m = given_in (reading t f m)

-- WHERE READING STOPPED
unfoldable pub stop_of : List ℕ → Frame → Mode → ℕ
stop_of t f m = (last_state (length t + 1) t f m start).at.0

-- MOVES AS THEY ARE TOLD: the characters before a place, one more where a lone `}` stands there, and those given back
unfoldable pub lone : List ℕ → ℕ → ℕ
lone t stop = pick (ltb stop (length t)) 1 0

unfoldable pub moves_told : List ℕ → ℕ → ℕ → ℕ
moves_told t stop back = length (chars_of t 0 stop) + lone t stop + back

module _ (t : List ℕ) where
  module _ (f : Frame) (m : Mode) where
    -- a step gives back little
    pub step_given : (s : State) → given_by (step_at t f m s) ≤ 4 * length t
    unfolding step_at after_open after_close
    step_given s =
        let P : Step → Type 0 = λ x. given_by x ≤ 4 * length t in
        pick_elim P _
        (λ _.
        pick_elim P _ (λ _. pick_elim P _ (λ _. omega arith) (λ _. placeholder_given t f m _ _ _))
        (λ _. pick_elim P _ (λ _. pick_elim P _ (λ _. omega arith) (λ _. omega arith)) (λ _. omega arith)))
        (λ _. omega arith)

    -- a step after which reading is over gives back nothing
    pub given_over : (s : State) (x : Step) → onward s x ≡ None → given_by x ≡ 0
    given_over s Step.End e = refl
    given_over s (Step.Stop p) e = refl
    given_over s (Step.Literal r) e = refl
    given_over s (Step.Placeholder p) e = cc

-- FOR A RUN that adds up what is given back: the step at hand, and those that follow
module _ (t : List ℕ) (f : Frame) (m : Mode) (s : State) {x : Step} (e : x ≡ step_at t f m s) where
  pub given_on : (k : ℕ) {a : State} → 0 < k → onward s x ≡ Some a → given_in (steps_from k t f m s) ≡ given_by x + given_in (steps_from (k - 1) t f m a)
  unfolding given_in
  given_on k h g = ap given_in (steps_on t f m s e k h g)

  pub given_last : (k : ℕ) → 0 < k → onward s x ≡ None → given_in (steps_from k t f m s) ≡ given_by x
  unfolding given_in
  given_last k h g = ap given_in (steps_over t f m s e k h g) ∙ add-zero (given_by x)

  -- and it gives back little
  pub given_few : given_by x ≤ 4 * length t
  given_few = rw e (step_given t f m s)

pub given_none : (t : List ℕ) (f : Frame) (m : Mode) (s : State) (k : ℕ) → k ≤ 0 → given_in (steps_from k t f m s) ≡ 0
unfolding given_in
given_none t f m s k h = ap given_in (steps_none t f m k s h)
