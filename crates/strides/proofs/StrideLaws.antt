-- Why no reading takes more moves: the characters before the place where it stopped, with a lone `}` there, are characters of the text; and what is
-- given back is paid step by step (PayLaws), so that it is no more than these. Rests on LeftLaws, PayLaws, StepLaws and MoveLaws.
use Prim.Native.Nat.{ℕ, zero, suc, ◌+◌, ◌*◌, ◌≤◌, ◌<◌, zero-le}
use Rattle.std.specs.Prelude.{◌≡◌, true, List, ltb, length, Option, Some, None}
use Rattle.std.proofs.Math.Path.{refl}
use Rattle.std.proofs.Common.{sym, ◌∙◌, subst, ltb-true, eqb-true}
use native.Mathlib.Omega.{arith}
use Rattle.utf8.specs.ChoiceLaws.{pick_elim}
use Rattle.frame.specs.declared.Frame.{Frame}
use Rattle.frame.specs.declared.Mode.{Mode}
use Rattle.scan.specs.Characters.{consumed, text_end}
use Rattle.scan.specs.ScanLaws.{consumed_is}
use Rattle.scan.specs.ReachLaws.{Reached, reached_none, reached_then, reached_consumed, reached_text, reached_left}
use Rattle.closing.specs.OnwardLaws.{placeholder_onward}
use Rattle.reading.specs.Moves.{moves}
use Rattle.reading.specs.Answers.{frame_for, mode_for, answer_by, answer_of}
use Rattle.reading.specs.Steps.{after_open, after_close, step_at, onward, start}
use Rattle.reading.specs.declared.Request.{Request}
use Rattle.reading.specs.declared.Rooms.{Rooms}
use Rattle.reading.specs.declared.State.{State}
use Rattle.reading.specs.declared.Step.{Step}
use Rattle.laws.specs.StateLaws.{standing, last_state}
use Rattle.laws.specs.StepLaws.{Run, reading_run}
use Rattle.laws.specs.MoveLaws.{given_by, given_in, given, stop_of, lone, moves_told, given_over}
use Rattle.laws.proofs.MovesTold.{moves_told_lem}
use Rattle.strides.specs.Strides.{characters, times}
use Rattle.strides.specs.LeftLaws.{left, conts, conts_few, text_left, some_left, mark_conts}
use Rattle.strides.specs.PayLaws.{Gives, gives_none, gives_both, placeholder_paid}

-- what is asked of a step: where reading goes on, whole characters were passed, and what it gave back and the continuations where it stood are paid by
-- them and by the continuations where it goes on
record Strode (t : List ℕ) (m : Mode) (i j g : ℕ) : Type 0 where
  pub reached : Reached t i j
  pub few : g + conts t i + left t j ≤ left t i + conts t j
  pub mode : Gives m g

abbrev Strides : List ℕ → Mode → State → Step → Option State → Type 0
Strides t m s x None = Unit {0}
Strides t m s x (Some s') = Strode t m s.at.0 s'.at.0 (given_by x)

module _ (t : List ℕ) (f : Frame) (m : Mode) where
  module _ (s : State) where
    -- a literal behind a brace
    doubled : (c : ℕ) → c < 0x80 → conts t s.at.0 ≡ 0 →
        let second = (consumed t s.at c).at in Strode t m s.at.0 (text_end t (consumed t second c).at).0 0
    doubled c l z =
        let second = (consumed t s.at c).at in
        let r = reached_then (reached_consumed t s.at c l) (reached_then (reached_consumed t second c l) (reached_text t _)) in
        record { reached = r; few = omega (arith, z, reached_left r); mode = gives_none m }

    -- after an opening brace
    open_strides : (consumed t s.at 0x7B).ate ≡ true →
        let x = after_open t f m s.at (consumed t s.at 0x7B).at s.next in Strides t m s x (onward s x)
    unfolding after_open
    open_strides y =
        let at = (consumed t s.at 0x7B).at in
        let z = mark_conts t s.at 0x7B (omega arith) tt (sym (consumed_is t s.at 0x7B) ∙ y) in
        let first = reached_consumed t s.at 0x7B (omega arith) in
        pick_elim (λ (x : Step). Strides t m s x (onward s x)) _ (λ _. doubled 0x7B (omega arith) z)
        (λ _.
        let p = placeholder_paid t f m s.at at s.next in
        record {
          reached = reached_then first (placeholder_onward t f m s.at at s.next).reached;
          few = omega (arith, z, reached_left first, p.few);
          mode = p.mode;
        })

    -- after a closing brace
    close_strides : (consumed t s.at 0x7D).ate ≡ true →
        let x = after_close t s.at (consumed t s.at 0x7D).at in Strides t m s x (onward s x)
    unfolding after_close
    close_strides y =
        let z = mark_conts t s.at 0x7D (omega arith) tt (sym (consumed_is t s.at 0x7D) ∙ y) in
        pick_elim (λ (x : Step). Strides t m s x (onward s x)) _ (λ _. doubled 0x7D (omega arith) z) (λ _. tt)

    -- literal text takes in all continuations where it starts
    text_strides : Strode t m s.at.0 (text_end t s.at).0 0
    unfolding text_end
    text_strides =
        record { reached = reached_text t s.at; few = omega (arith, text_left t s.at.0); mode = gives_none m }

    -- EACH STEP
    step_strides : Strides t m s (step_at t f m s) (onward s (step_at t f m s))
    unfolding step_at
    step_strides =
        let P : Step → Type 0 = λ x. Strides t m s x (onward s x) in
        pick_elim P _
        (λ _. pick_elim P _ open_strides (λ _. pick_elim P _ close_strides (λ _. text_strides)))
        (λ _. tt)

    strode : {x : Step} {s' : State} → x ≡ step_at t f m s → onward s x ≡ Some s' → Strode t m s.at.0 s'.at.0 (given_by x)
    strode {x} e o = subst (Strides t m s x) o (rw e step_strides)

  -- what a run gives back, and the continuations where it starts, are no more than the characters left there
  record Returned (s : State) (xs : List Step) : Type 0 where
    pub few : given_in xs + conts t s.at.0 ≤ left t s.at.0
    pub mode : Gives m (given_in xs)

  run_returned : {s : State} {xs : List Step} → Run t f m s xs → Returned s xs
  unfolding given_in
  run_returned {s} (Run.last {x = x} e o) =
      let z : given_by x + 0 ≡ 0 = omega (arith, given_over t f m s x o) in
      record { few = omega (arith, z, conts_few t s.at.0); mode = rw z (gives_none m) }
  run_returned {s} (Run.more {x = x} {xs = xs} e o r) =
      let p = strode s e o in
      let q = run_returned r in
      record { few = omega (arith, p.few, q.few); mode = gives_both m (given_by x) (given_in xs) p.mode q.mode }

  -- WHAT A READING GIVES BACK is no more than the text has characters, and nothing but in Format
  given_few : given t f m ≤ characters t
  unfolding given
  given_few = omega (arith, (run_returned (reading_run t f m)).few)

  given_mode : Gives m (given t f m)
  unfolding given
  given_mode = (run_returned (reading_run t f m)).mode

  -- reading stops at a character, or at the end
  last_reached : (k : ℕ) (s : State) → Reached t s.at.0 (last_state k t f m s).at.0
  unfolding last_state
  last_reached zero s = reached_none s.at.0
  last_reached (suc k) s = go (onward s (step_at t f m s)) refl (λ s'. last_reached k s')
    where
      go : (o : Option State) → onward s (step_at t f m s) ≡ o → ((s' : State) → Reached t s'.at.0 (last_state k t f m s').at.0) →
          Reached t s.at.0 (standing (last_state k t f m) s o).at.0
      go None e on = reached_none s.at.0
      go (Some s') e on = reached_then (strode s refl e).reached (on s')

  lone_left : (i : ℕ) → lone t i ≤ left t i
  unfolding lone
  lone_left i = pick_elim (λ (n : ℕ). n ≤ left t i) (ltb i (length t)) (λ y. some_left t i (ltb-true i (length t) y)) (λ _. omega arith)

  -- so THE MOVES are no more than the characters and those given back
  moves_few : moves t f m ≤ characters t + given t f m
  unfolding moves_told stop_of
  moves_few =
      omega (
        arith,
        moves_told_lem t f m,
        reached_left (last_reached (length t + 1) start),
        lone_left (stop_of t f m),
      )

-- THE BOUND OF EACH MODE
pub mode_bound : (t : List ℕ) (f : Frame) (m : Mode) → moves t f m ≤ times m * characters t
mode_bound t f m = go m (given_mode t f m) (given_few t f m) (moves_few t f m)
  where
    go : (m : Mode) {a g n : ℕ} → Gives m g → g ≤ n → a ≤ n + g → a ≤ times m * n
    go Mode.Format h l b = omega arith
    go Mode.InlineAsm h l b = omega arith
    go Mode.Diagnostic h l b = omega arith

-- which is at most twice
pub times_few : (m : Mode) (n : ℕ) → times m * n ≤ 2 * n
times_few Mode.Format n = omega arith
times_few Mode.InlineAsm n = omega arith
times_few Mode.Diagnostic n = omega arith

module _ (t s : List ℕ) (q : Request) (r : Rooms) where
  -- THE BOUND OF AN ANSWER: it tells the reading's moves, or none
  pub answer_bound : (answer_of t s q r).moves ≤ times (mode_for q) * characters t
  unfolding answer_of answer_by
  answer_bound =
      pick_elim (λ (n : ℕ). n ≤ times (mode_for q) * characters t) _ (λ _. mode_bound t (frame_for t s q) (mode_for q)) (λ _. zero-le)

  -- and none where it refuses
  pub answer_none : ((answer_of t s q r).number ≡ 0 → ⊥) → (answer_of t s q r).moves ≡ 0
  unfolding answer_of answer_by
  answer_none refused = pick_elim (λ (n : ℕ). n ≡ 0) _ (λ y. absurd (refused (eqb-true _ 0 y))) (λ _. refl)
