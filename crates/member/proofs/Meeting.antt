-- A run over the steps: what it has met is what there is in the pieces so far, a step at a time. Rests on Meetings and on the laws of the steps.
use Rattle.std.specs.Prelude.{Some, None}
use Prim.Native.Nat.{ℕ, suc, ◌+◌, ◌-◌, ◌≤◌, ◌<◌}
use mathlib.Core.Path.{◌≡◌, refl, ap, sym, ◌∙◌}
use mathlib.Core.Bool.{Bool, true, false}
use mathlib.Core.List.{List, [], ◌∷◌, ◌++◌, append_assoc, append-nil}
use native.Mathlib.Omega.{arith}
use borrow.Author.Tests.{lt-ltb, le-ltb, ltb-true, ltb-false, eq-eqb, ne_eqb}
use lib.Dec.{ltb}
use lib.ListN.{length, length-append, drop_of_length-le}
use Rattle.utf8.specs.Choice.{pick}
use Rattle.frame.specs.declared.Frame.{Frame}
use Rattle.frame.specs.declared.Mode.{Mode}
use Rattle.reading.specs.Steps.{step_at, onward, follow, steps_from, start, reading}
use Rattle.reading.specs.Faults.{step_slots, wrong, faults_of}
use Rattle.reading.specs.Lists.{gather, pieces_of, pieces, errors}
use Rattle.reading.specs.declared.Piece.{Piece}
use Rattle.reading.specs.declared.State.{State}
use Rattle.reading.specs.declared.Step.{Step}
use Rattle.laws.specs.FaultLaws.{wrong_slot, slots_few}
use Rattle.laws.specs.ListLaws.{gather_more, gather_one, errors_length}
use Rattle.laws.specs.StepLaws.{steps_none}
use Rattle.laws.specs.WalkLaws.{Kept, kept_start, kept_on, steps_some, steps_on, steps_over}
use Rattle.faults.specs.Slots.{FirstWrong}
use Rattle.membership.specs.Members.{number, date, is_unnamed, takes, is_called}
use Rattle.membership.specs.Verdicts.{first_where, second_where, pieces_verdict, text_verdict}
use Rattle.membership.specs.declared.Verdict.{Verdict}
use Rattle.passing.specs.Clear.{Clear}
use Rattle.member.specs.Meetings.{first_after, again_after, met_after, met_step, told, met_of}
use Rattle.member.specs.declared.Met.{Met}

-- a first piece before all others moves what is found
first_suc : (a n : ℕ) (here : Bool) → first_after (suc a) (suc n) here ≡ suc (first_after a n here)
unfolding first_after pick
first_suc a n here = go (ltb a n) refl here
  where
    go : (b : Bool) → ltb a n ≡ b → (here : Bool) → pick (ltb (suc a) (suc n)) (suc a) (pick here (suc n) (suc n + 1)) ≡ suc (pick b a (pick here n (n + 1)))
    go true e here = rw (lt-ltb (suc a) (suc n) (omega (arith, ltb-true a n e)))
    go false e true = rw (le-ltb (suc a) (suc n) (omega (arith, ltb-false a n e)))
    go false e false = rw (le-ltb (suc a) (suc n) (omega (arith, ltb-false a n e))) (omega arith)

again_suc : (a b n : ℕ) (here : Bool) → again_after (suc a) (suc b) (suc n) here ≡ suc (again_after a b n here)
unfolding again_after pick
again_suc a b n here = go (ltb a n) refl
  where
    go : (x : Bool) → ltb a n ≡ x → pick (ltb (suc a) (suc n)) (first_after (suc b) (suc n) here) (suc n + 1) ≡ suc (pick x (first_after b n here) (n + 1))
    go true e = rw (lt-ltb (suc a) (suc n) (omega (arith, ltb-true a n e))) (first_suc b n here)
    go false e = rw (le-ltb (suc a) (suc n) (omega (arith, ltb-false a n e))) (omega arith)

module _ (sort : Piece → Bool) (x : Piece) where
  -- the first with one piece more
  first_snoc : (xs : List Piece) → first_where sort (xs ++ (x ∷ [])) ≡ first_after (first_where sort xs) (length xs) (sort x)
  unfolding first_where first_after pick
  first_snoc [] = refl
  first_snoc (y ∷ ys) = go (sort y) (first_snoc ys)
    where
      go : (b : Bool) → first_where sort (ys ++ (x ∷ [])) ≡ first_after (first_where sort ys) (length ys) (sort x) →
          pick b 0 (suc (first_where sort (ys ++ (x ∷ [])))) ≡ first_after (pick b 0 (suc (first_where sort ys))) (suc (length ys)) (sort x)
      go true e = rw (lt-ltb 0 (suc (length ys)) (omega arith))
      go false e = ap suc e ∙ sym (first_suc (first_where sort ys) (length ys) (sort x))

  -- and the second
  second_snoc : (xs : List Piece) →
      second_where sort (xs ++ (x ∷ [])) ≡ again_after (first_where sort xs) (second_where sort xs) (length xs) (sort x)
  unfolding first_where second_where again_after pick
  second_snoc [] = go (sort x)
    where
      go : (b : Bool) → suc (pick b 0 0) ≡ 1
      go true = refl
      go false = refl
  second_snoc (y ∷ ys) = go (sort y) (first_snoc ys) (second_snoc ys)
    where
      go : (b : Bool) → first_where sort (ys ++ (x ∷ [])) ≡ first_after (first_where sort ys) (length ys) (sort x) →
          second_where sort (ys ++ (x ∷ [])) ≡ again_after (first_where sort ys) (second_where sort ys) (length ys) (sort x) →
          suc (pick b (first_where sort (ys ++ (x ∷ []))) (second_where sort (ys ++ (x ∷ [])))) ≡
          again_after (pick b 0 (suc (first_where sort ys))) (suc (pick b (first_where sort ys) (second_where sort ys))) (suc (length ys)) (sort x)
      go true e d = rw (lt-ltb 0 (suc (length ys)) (omega arith)) (ap suc e ∙ sym (first_suc (first_where sort ys) (length ys) (sort x)))
      go false e d = ap suc d ∙ sym (again_suc (first_where sort ys) (second_where sort ys) (length ys) (sort x))

-- what is met is equal where each part is
met_same : {n u k a b d n' u' k' a' b' d' : ℕ} → n ≡ n' → u ≡ u' → k ≡ k' → a ≡ a' → b ≡ b' → d ≡ d' →
    ◌≡◌ {A = Met} (record { pieces = n; unnamed = u; taken = k; number = a; again = b; date = d })
    (record { pieces = n'; unnamed = u'; taken = k'; number = a'; again = b'; date = d' })
met_same p q r s x y = cc

-- one piece more
met_one : (t : List ℕ) (ps : List Piece) (x : Piece) →
    met_after (met_of t ps) (record { unnamed = is_unnamed x; taken = takes x; number = is_called t number x; date = is_called t date x }) ≡
    met_of t (ps ++ (x ∷ []))
unfolding met_after met_of
met_one t ps x =
    met_same
    (sym (length-append ps (x ∷ [])))
    (sym (first_snoc is_unnamed x ps))
    (sym (first_snoc takes x ps))
    (sym (first_snoc (is_called t number) x ps))
    (sym (second_snoc (is_called t number) x ps))
    (sym (first_snoc (is_called t date) x ps))

-- one step more
met_step_lem : (t : List ℕ) (ps : List Piece) (x : Step) → met_step t (met_of t ps) x ≡ met_of t (ps ++ pieces_of x)
met_step_lem t ps Step.End = rw append-nil
met_step_lem t ps (Step.Stop p) = rw append-nil
met_step_lem t ps (Step.Literal r) = met_one t ps (Piece.Literal r)
met_step_lem t ps (Step.Placeholder p) = met_one t ps (Piece.Placeholder p.argument)

-- what is met in all pieces is told as the pieces' verdict
told_all : (t : List ℕ) (ps : List Piece) → told (met_of t ps) ≡ pieces_verdict t ps
unfolding told met_of pieces_verdict
told_all t ps = refl

-- a step has one piece at most
piece_few : (x : Step) → length (pieces_of x) ≤ 1
piece_few Step.End = omega arith
piece_few (Step.Stop p) = omega arith
piece_few (Step.Literal r) = omega arith
piece_few (Step.Placeholder p) = omega arith

-- what a step found wrong, by the first slot that is not clean
step_sound : {x : Step} {w : ℕ} → FirstWrong x 0 w → 13 ≤ w → faults_of x ≡ []
unfolding faults_of wrong
step_sound {x} {w} h l = h.skipped ∙ rw (drop_of_length-le (step_slots x) {i = w} (omega (arith, slots_few x, l)))

step_wrong : {x : Step} {w : ℕ} → FirstWrong x 0 w → w < 13 → ¬ (length (faults_of x) ≡ 0)
unfolding faults_of
step_wrong {x} {w} h l e =
    let d = ap length (h.skipped ∙ wrong_slot (step_slots x) w (h.found l)) in
    omega (arith, d, e)

-- THE VERDICT by faults and pieces
module _ (t : List ℕ) (f : Frame) where
  with_faults : ¬ (length (gather faults_of (reading t f Mode.Format)) ≡ 0) → Verdict.Broken 1 0 ≡ text_verdict t f
  unfolding text_verdict pick
  with_faults h = rw (ne_eqb (length (errors t f Mode.Format)) 0 (λ e. h (sym (errors_length t f Mode.Format) ∙ e)))

  without : {ps : List Piece} → gather faults_of (reading t f Mode.Format) ≡ [] → ps ≡ pieces t f Mode.Format → told (met_of t ps) ≡ text_verdict t f
  unfolding text_verdict pick
  without e g = rw (eq-eqb (length (errors t f Mode.Format)) 0 (errors_length t f Mode.Format ∙ ap length e), g) (told_all t _)

  -- A RUN with k steps left: it has met what there is in the pieces so far, and no fault
  pub record Walk (k : ℕ) (s : State) (m : Met) : Type 0 where
    pub past : List Piece
    pub met : m ≡ met_of t past
    pub the_pieces : past ++ gather pieces_of (steps_from k t f Mode.Format s) ≡ pieces t f Mode.Format
    pub the_faults : gather faults_of (steps_from k t f Mode.Format s) ≡ gather faults_of (reading t f Mode.Format)
    pub few : length past + k ≤ length t + 1
    pub kept : Kept k s

  -- at the start
  pub walk_start : length t ≤ 65535 → Walk (length t + 1) start (record { pieces = 0; unnamed = 0; taken = 0; number = 0; again = 0; date = 0 })
  unfolding met_of first_where second_where pieces reading
  walk_start h = record { past = []; met = refl; the_pieces = refl; the_faults = refl; few = omega arith; kept = kept_start t h }

  -- the pieces so far are few
  pub walk_few : {k : ℕ} {s : State} {m : Met} → length t ≤ 65535 → Walk k s m → m.pieces < 0x10000000
  unfolding met_of
  walk_few h w = omega (arith, h, w.few, ap (λ (m : Met). m.pieces) w.met)

  -- no step is left
  pub walk_none : {k : ℕ} {s : State} {m : Met} → k ≤ 0 → Walk k s m → told m ≡ text_verdict t f
  unfolding gather
  walk_none {k} {s} h w =
      let e = steps_none t f Mode.Format k s h in
      rw w.met (without (rw e at (sym w.the_faults)) (rw (e, append-nil) at w.the_pieces))

  module _ {k : ℕ} {s : State} {m : Met} (more : 0 < k) (walk : Walk k s m) {x : Step} (step : x ≡ step_at t f Mode.Format s) where
    -- a step that found nothing wrong, and what is met with it
    module _ (sound : faults_of x ≡ []) {n : Met} (new : n ≡ met_step t m x) where
      now_met : n ≡ met_of t (walk.past ++ pieces_of x)
      now_met = new ∙ ap (λ (m : Met). met_step t m x) walk.met ∙ met_step_lem t walk.past x

      -- reading is over
      sound_over : onward s x ≡ None → told n ≡ text_verdict t f
      sound_over o =
          let e = steps_over t f Mode.Format s step k more o in
          rw now_met
          (without (sym walk.the_faults ∙ rw (e, gather_one) sound) (rw (e, gather_one) at walk.the_pieces))

      -- reading goes on
      sound_on : {a : State} → onward s x ≡ Some a → Walk (k - 1) a n
      sound_on {a} o =
          let e = steps_on t f Mode.Format s step k more o in
          record {
            past = walk.past ++ pieces_of x;
            met = now_met;
            the_pieces = rw append_assoc (rw (e, gather_more) at walk.the_pieces);
            the_faults = rw (e, gather_more, sound) at walk.the_faults;
            few = omega (arith, more, walk.few, length-append walk.past (pieces_of x), piece_few x);
            kept = kept_on t f Mode.Format s step k more o walk.kept;
          }

    module _ {w : ℕ} (first : FirstWrong x 0 w) where
      -- a step that found something wrong
      pub walk_wrong : w < 13 → Verdict.Broken 1 0 ≡ text_verdict t f
      walk_wrong l =
          with_faults
          (λ e.
          let d = ap length walk.the_faults in
          let g = length-append (faults_of x) (gather faults_of (follow (steps_from (k - 1) t f Mode.Format) (onward s x))) in
          let h : length (gather faults_of (steps_from k t f Mode.Format s)) ≡ 0 = d ∙ e in
          step_wrong first l (omega (arith, g, rw (steps_some t f Mode.Format s step k more, gather_more) at h)))

      -- and one that did not
      pub walk_over : 13 ≤ w → {n : Met} → n ≡ met_step t m x → onward s x ≡ None → told n ≡ text_verdict t f
      walk_over l new o = sound_over (step_sound first l) new o

      pub walk_on : 13 ≤ w → {n : Met} → n ≡ met_step t m x → {a : State} → onward s x ≡ Some a → Walk (k - 1) a n
      walk_on l new o = sound_on (step_sound first l) new o

  -- a step that is clear
  pub walk_clear : {k : ℕ} {s : State} {m : Met} → 0 < k → Walk k s m → {a : State} → Clear t f Mode.Format s a → {n : Met} → n ≡ met_step t m (step_at t f Mode.Format s) →
      Walk (k - 1) a n
  unfolding faults_of
  walk_clear more walk c new = sound_on more walk refl c.clean new c.goes
