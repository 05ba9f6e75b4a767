-- Laws of the steps: what a turn of a loop over them needs, that reading goes on at a later place of the text, and that a reading is
-- whole: one more turn would add nothing, and the last step is the end or a lone `}`.
-- Rests on Steps, and on the laws of where `scan` and `placeholder` stop.
use Prim.Native.Nat.{ℕ, zero, suc, ◌+◌, ◌-◌, ◌≤◌, ◌<◌}
use Rattle.std.specs.Prelude.{◌≡◌, true, false, List, [], ◌∷◌, length, Option, Some, None}
use Rattle.std.proofs.Math.Path.{refl}
use Rattle.std.proofs.Common.{subst}
use native.Mathlib.Omega.{arith}
use borrow.Author.Tests.{ltb-true}
use Rattle.utf8.specs.Choice.{pick}
use Rattle.utf8.specs.ChoiceLaws.{pick_elim}
use Rattle.utf8.specs.CharLaws.{end_past}
use Rattle.frame.specs.declared.TextPlace.{TextPlace}
use Rattle.frame.specs.declared.Frame.{Frame}
use Rattle.scan.specs.Characters.{sees, is_at, consumed, is_plain, text_end}
use Rattle.scan.specs.ScanLaws.{seen_elim, consumed_on, consumed_in, consumed_some, text_on, text_in, text_some}
use Rattle.closing.specs.OnwardLaws.{placeholder_on, placeholder_in, placeholder_next}
use Rattle.frame.specs.declared.Mode.{Mode}
use Rattle.reading.specs.Steps.{after_open, after_close, step_at, onward, follow, steps_from, start, reading}
use Rattle.reading.specs.Lists.{is_end}
use Rattle.reading.specs.declared.State.{State}
use Rattle.reading.specs.declared.Step.{Step}
use Rattle.utf8.specs.declared.Char.{Char}

module _ (t : List ℕ) (f : Frame) (m : Mode) where
  -- where reading goes on, the steps are the one there and those that follow
  pub steps_more : (k : ℕ) (s : State) {s' : State} → 0 < k → onward s (step_at t f m s) ≡ Some s' →
      steps_from k t f m s ≡ step_at t f m s ∷ steps_from (k - 1) t f m s'
  unfolding steps_from
  steps_more zero s h e = absurd (omega arith)
  steps_more (suc k) s h e = let q : suc k - 1 ≡ k = omega arith in rw (e, q)

  -- where it is over, the step there is the last
  pub steps_over : (k : ℕ) (s : State) → 0 < k → onward s (step_at t f m s) ≡ None →
      steps_from k t f m s ≡ step_at t f m s ∷ []
  unfolding steps_from
  steps_over zero s h e = absurd (omega arith)
  steps_over (suc k) s h e = rw e

  -- no turns, no steps
  pub steps_none : (k : ℕ) (s : State) → k ≤ 0 → steps_from k t f m s ≡ []
  unfolding steps_from
  steps_none zero s h = refl
  steps_none (suc k) s h = absurd (omega arith)

-- reading goes on within the text, at a later place, and at most four arguments further
pub record Later (t : List ℕ) (s s' : State) : Type 0 where
  pub within : s.at.0 < length t
  pub on : s.at.0 < s'.at.0
  pub inside : s'.at.0 ≤ length t
  pub next : s'.next ≤ s.next + 4

-- what holds where reading goes on; where it is over, nothing is asked
abbrev Goes : List ℕ → State → Option State → Type 0
Goes t s None = Unit {0}
Goes t s (Some s') = Later t s s'

-- a character that is no brace is literal text, and a run of it passes a byte
plain_on : (t : List ℕ) (at : TextPlace) → at.0 < length t → (consumed t at 0x7B).ate ≡ false → (consumed t at 0x7D).ate ≡ false →
    at.0 < (text_end t at).0
unfolding consumed is_at is_plain pick
plain_on t at h =
    seen_elim (λ (n : Option Char). sees 0x7B n ≡ false → sees 0x7D n ≡ false → at.0 < (text_end t at).0) t at.0
    (λ e _ _. omega (arith, end_past t at.0 e))
    (λ c w e o d. text_some t at e (rw (o, d)))

module _ (t : List ℕ) (f : Frame) (m : Mode) (s : State) (h : s.at.0 < length t) where
  -- after an opening brace
  open_goes : (consumed t s.at 0x7B).ate ≡ true →
      Goes t s (onward s (after_open t f m s.at (consumed t s.at 0x7B).at s.next))
  unfolding after_open
  open_goes y =
      let at = (consumed t s.at 0x7B).at in
      let past = (consumed t at 0x7B).at in
      let n = s.next in
      let one = consumed_some t s.at 0x7B y in
      let in1 = consumed_in t s.at 0x7B (omega arith) in
      pick_elim (λ (x : Step). Goes t s (onward s x)) _
      (λ _. omega (arith, consumed_on t at 0x7B, text_on t past, text_in t past (consumed_in t at 0x7B in1)))
      (λ _.
      omega (
        arith,
        placeholder_on t f m s.at at n,
        placeholder_in t f m s.at at n in1,
        placeholder_next t f m s.at at n,
      ))

  -- after a closing brace
  close_goes : (consumed t s.at 0x7D).ate ≡ true →
      Goes t s (onward s (after_close t s.at (consumed t s.at 0x7D).at))
  unfolding after_close
  close_goes y =
      let at = (consumed t s.at 0x7D).at in
      let past = (consumed t at 0x7D).at in
      let one = consumed_some t s.at 0x7D y in
      let in1 = consumed_in t s.at 0x7D (omega arith) in
      pick_elim (λ (x : Step). Goes t s (onward s x)) _
      (λ _. omega (arith, consumed_on t at 0x7D, text_on t past, text_in t past (consumed_in t at 0x7D in1)))
      (λ _. tt)

module _ (t : List ℕ) (f : Frame) (m : Mode) (s : State) where
  -- after any step
  step_goes : Goes t s (onward s (step_at t f m s))
  unfolding step_at
  step_goes =
      let P : Step → Type 0 = λ x. Goes t s (onward s x) in
      pick_elim P _
      (λ l.
      let h = ltb-true s.at.0 (length t) l in
      pick_elim P _ (λ y. open_goes t f m s h y)
      (λ o.
      pick_elim P _ (λ y. close_goes t f m s h y)
      (λ d. omega (arith, plain_on t s.at h o d, text_in t s.at (omega arith)))))
      (λ _. tt)

  module _ {s' : State} (e : onward s (step_at t f m s) ≡ Some s') where
    -- where reading goes on
    pub step_later : Later t s s'
    step_later = subst (Goes t s) e step_goes

    -- the next argument's number moves by four at most
    pub step_next : s'.next ≤ s.next + 4
    step_next = step_later.next

    -- each step but the last passes a byte
    pub step_on : s.at.0 < s'.at.0
    step_on = step_later.on

-- the steps from a state, with no count of turns: each is the step where reading stands, and the last is the one after which it is over
pub data Run (t : List ℕ) (f : Frame) (m : Mode) : State → List Step → Type 0 where
  last : {s : State} {x : Step} → x ≡ step_at t f m s → onward s x ≡ None → Run t f m s (x ∷ [])
  more : {s s' : State} {x : Step} {xs : List Step} → x ≡ step_at t f m s → onward s x ≡ Some s' →
      Run t f m s' xs → Run t f m s (x ∷ xs)

module _ (t : List ℕ) (f : Frame) (m : Mode) where
  -- with a turn for each byte left and one more, the steps are a whole run
  pub steps_run : (k : ℕ) (s : State) → length t - s.at.0 < k → Run t f m s (steps_from k t f m s)
  unfolding steps_from
  steps_run zero s h = absurd (omega arith)
  steps_run (suc k) s h = go (onward s (step_at t f m s)) refl (λ s' l. steps_run k s' (omega (arith, l)))
    where
      go : (o : Option State) → onward s (step_at t f m s) ≡ o → ((s' : State) → Later t s s' → Run t f m s' (steps_from k t f m s')) →
          Run t f m s (step_at t f m s ∷ follow (steps_from k t f m) o)
      go None e on = Run.last refl e
      go (Some s') e on = Run.more refl e (on s' (step_later t f m s e))

  -- and so is the reading of a text
  pub reading_run : Run t f m start (reading t f m)
  unfolding reading
  reading_run = steps_run (length t + 1) start (omega arith)

-- a step after which reading goes on is not the end
pub not_end : (s : State) (x : Step) {s' : State} → onward s x ≡ Some s' → is_end x ≡ false
not_end s Step.End e = cc
not_end s (Step.Stop p) e = refl
not_end s (Step.Literal r) e = refl
not_end s (Step.Placeholder p) e = refl
