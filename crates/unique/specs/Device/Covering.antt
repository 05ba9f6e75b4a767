-- The bytes are covered: each step starts where the one before it ended, and passes something; and kind 1 tells a stop before the end. Rests on
-- grammar's Cover and on Alone, and on the laws by which the leaves and the placeholder go forward and stay within the text.
use Rattle.std.specs.Prelude.{◌≡◌, refl, ◌≢◌, ◌⊎◌, List, ◌∷◌, ◌++◌, true, ltb, eqb, length, Option}
use Rattle.std.proofs.Math.Path.{ap}
use Rattle.std.proofs.Common.{sym, ◌∙◌, arith}
use Rattle.std.proofs.Math.Logic.{inl, inr, ⊎_elim}
use Rattle.std.proofs.Math.Bool.{false}
use Prim.Native.Nat.{ℕ, zero, suc, ◌+◌, ◌-◌, ◌≤◌, ◌<◌}
use borrow.Author.Tests.{ltb-true, ltb-false, eqb-true, eqb-false}
use Rattle.std.proofs.Math.ListN.{get_or-eq_default}
use Rattle.utf8.specs.Choice.{pick}
use Rattle.utf8.specs.ChoiceLaws.{pick_elim}
use Rattle.utf8.specs.Chars.{run_end}
use Rattle.utf8.specs.CharLaws.{end_past, past_end, run_end_lem, byte_more, byte_stop}
use Rattle.frame.specs.Places.{place, range_of}
use Rattle.frame.specs.declared.TextPlace.{TextPlace}
use Rattle.frame.specs.declared.TextRange.{TextRange}
use Rattle.frame.specs.declared.Frame.{Frame}
use Rattle.frame.specs.declared.Mode.{Mode}
use Rattle.scan.specs.Characters.{sees, is_at, consumed, is_plain, text_end}
use Rattle.scan.specs.ScanLaws.{plain_high, seen_elim, is_at_in, is_at_byte, consumed_some, consumed_is, run_in, text_on, text_some}
use Rattle.closing.specs.Wholes.{placeholder_read, missing_read}
use Rattle.closing.specs.OnwardLaws.{placeholder_on, placeholder_in}
use Rattle.closing.specs.declared.whole.PlaceholderRead.{PlaceholderRead}
use Rattle.reading.specs.Wants.{larger, argument_wants}
use Rattle.reading.specs.Steps.{state_of, after_open, after_close, step_at, onward, follow, steps_from, start, reading}
use Rattle.reading.specs.Faults.{step_slots, wrong, faults_of}
use Rattle.reading.specs.Lists.{gather, pieces_of, pieces, errors}
use Rattle.reading.specs.declared.Fault.{Fault}
use Rattle.reading.specs.declared.State.{State}
use Rattle.reading.specs.declared.Step.{Step}
use Rattle.grammar.specs.Grammar.{Brace, Plain}
use Rattle.grammar.specs.Cover.{byte_at, Begins, View, Tiles, Lone, Covered}
use Rattle.unique.specs.Device.Runs.{case_b}
use Rattle.unique.specs.Device.Classes.{to_plain, to_brace}
use Rattle.unique.specs.Device.Alone.{Others, others_append, wrong_others, others_errors, Told, told_after, told_errors, placeholder_others}
use Rattle.utf8.specs.declared.Char.{Char}

-- A BYTE, where an ASCII character is and where it is not
module _ (t : List ℕ) (at : TextPlace) (c : ℕ) (l : c < 0x80) where
  byte_is : is_at t at c ≡ true → byte_at t at.0 ≡ c
  byte_is h = eqb-true (byte_at t at.0) c (sym (is_at_byte t at c l (is_at_in t at c h)) ∙ h)

  byte_not : 0 < c → is_at t at c ≡ false → byte_at t at.0 ≢ c
  byte_not p h e =
      case_b (ltb at.0 (length t))
      (λ k. eqb-false (byte_at t at.0) c (sym (is_at_byte t at c l (ltb-true at.0 (length t) k)) ∙ h) e)
      (λ k. omega (arith, get_or-eq_default t 0 (ltb-false at.0 (length t) k)))

-- what a step passes from byte i on: the end, a lone `}`, a view, or an argument
record PassedView (t : List ℕ) (i : ℕ) (r : TextRange) : Type 0 where
  view : View t i r.start.0 r.end.0
  inside : r.end.0 ≤ length t

record PassedArgument (t : List ℕ) (i : ℕ) (p : PlaceholderRead) : Type 0 where
  starts : p.argument.range.start.0 ≡ i
  stands : p.argument.range.end.0 ≡ p.at.0
  brace : byte_at t i ≡ 0x7B
  on : i < p.at.0
  inside : p.at.0 ≤ length t

abbrev Passed : List ℕ → ℕ → Step → Type 0
Passed t i Step.End = i ≡ length t
Passed t i (Step.Stop p) = Lone t i
Passed t i (Step.Literal r) = PassedView t i r
Passed t i (Step.Placeholder p) = PassedArgument t i p

module _ (t : List ℕ) (f : Frame) (m : Mode) where
  -- a placeholder's range is from its brace to where reading stood afterwards
  range_start : (brace at : TextPlace) (n : ℕ) →
      (placeholder_read t f m brace at n).argument.range ≡ range_of brace (placeholder_read t f m brace at n).at
  unfolding placeholder_read missing_read
  range_start brace at n = pick_elim (λ (p : PlaceholderRead). p.argument.range ≡ range_of brace p.at) _ (λ _. refl) (λ _. refl)

  -- a doubled brace
  doubled : (at : TextPlace) (c : ℕ) → c < 0x80 → Brace c → is_at t at c ≡ true → is_at t (place (at.0 + 1)) c ≡ true → Begins t at.0 (at.0 + 1)
  doubled at c l b h k =
      let e = byte_is t at c l h in
      inr (refl, (rw e b, byte_is t (place (at.0 + 1)) c l k ∙ sym e))

  -- literal text goes to the next brace, with none in it
  record Run (i : ℕ) : Type 0 where
    plain : (j : ℕ) → i ≤ j → j < run_end is_plain t i → Plain (byte_at t j)
    ends : (run_end is_plain t i ≡ length t) ⊎ Brace (byte_at t (run_end is_plain t i))

  run_through : (n i : ℕ) → i + n ≡ length t → Run i
  run_through zero i l =
      let e = run_end_lem is_plain t i (past_end t i (omega arith)) in
      record { plain = λ j a b. absurd (omega (arith, e)); ends = inl (e ∙ omega arith) }
  run_through (suc n) i l =
      case_b (is_plain (byte_at t i))
      (λ h.
      let e = byte_more is_plain plain_high t i (omega arith) h in
      let r = run_through n (i + 1) (omega arith) in
      let here : (j : ℕ) → j ≡ i → Plain (byte_at t j) = λ j q. rw q (to_plain (byte_at t i) h) in
      record {
        plain = λ j a b. case_b (eqb j i) (λ q. here j (eqb-true j i q)) (λ q. let z = eqb-false j i q in r.plain j (omega arith) (rw e b));
        ends = rw (← e) r.ends;
      })
      (λ h.
      let e = byte_stop is_plain plain_high t i (omega arith) h in
      record { plain = λ j a b. absurd (omega (arith, e)); ends = inr (rw e (to_brace (byte_at t i) h)) })

  -- a view that begins at byte a, whose literal text is read from there or from the byte after it
  view_passed : (i a : ℕ) (at : TextPlace) → Begins t i a → a ≤ at.0 → at.0 ≤ a + 1 → at.0 ≤ length t → a < (text_end t at).0 →
      PassedView t i (range_of (place a) (text_end t at))
  unfolding text_end
  view_passed i a at b low high l some =
      let r = run_through (length t - at.0) at.0 (omega arith) in
      record {
        view = record { begins = b; some = some; plain = λ j x y. r.plain j (omega arith) y; ends = r.ends };
        inside = run_in is_plain t at.0 l;
      }

  -- after a doubled brace
  doubled_passed : (at : TextPlace) (c : ℕ) → c < 0x80 → Brace c → is_at t at c ≡ true → is_at t (place (at.0 + 1)) c ≡ true →
      PassedView t at.0 (range_of (place (at.0 + 1)) (text_end t (place (at.0 + 1 + 1))))
  doubled_passed at c l b h k =
      let p : TextPlace = place (at.0 + 1 + 1) in
      let i = is_at_in t (place (at.0 + 1)) c k in
      view_passed at.0 (at.0 + 1) p (doubled at c l b h k) (omega arith) (omega arith) (omega arith) (omega (arith, text_on t p))

  -- an ASCII character that was passed
  eaten : (at : TextPlace) (c : ℕ) → (consumed t at c).ate ≡ true → (consumed t at c).at ≡ place (at.0 + 1)
  eaten at c h = ap place (consumed_some t at c h)

  was_at : (at : TextPlace) (c : ℕ) → (consumed t at c).ate ≡ true → is_at t at c ≡ true
  was_at at c h = sym (consumed_is t at c) ∙ h

  not_at : (at : TextPlace) (c : ℕ) → (consumed t at c).ate ≡ false → is_at t at c ≡ false
  not_at at c h = sym (consumed_is t at c) ∙ h

  -- after an opening brace
  open_passed : (at : TextPlace) (n : ℕ) → is_at t at 0x7B ≡ true → Passed t at.0 (after_open t f m at (place (at.0 + 1)) n)
  unfolding after_open
  open_passed at n h =
      let p : TextPlace = place (at.0 + 1) in
      let i = is_at_in t at 0x7B h in
      pick_elim (Passed t at.0) (consumed t p 0x7B).ate
      (λ k.
      let b = was_at p 0x7B k in
      rw (eaten p 0x7B k) (doubled_passed at 0x7B (omega arith) (inl refl) h b))
      (λ k.
      let e = range_start at p n in
      record {
        starts = ap (λ r. r.start.0) e;
        stands = ap (λ r. r.end.0) e;
        brace = byte_is t at 0x7B (omega arith) h;
        on = omega (arith, placeholder_on t f m at p n);
        inside = placeholder_in t f m at p n (omega arith);
      })

  -- after a closing one
  close_passed : (at : TextPlace) → is_at t at 0x7D ≡ true → Passed t at.0 (after_close t at (place (at.0 + 1)))
  unfolding after_close
  close_passed at h =
      let p : TextPlace = place (at.0 + 1) in
      pick_elim (Passed t at.0) (consumed t p 0x7D).ate
      (λ k.
      let b = was_at p 0x7D k in
      rw (eaten p 0x7D k) (doubled_passed at 0x7D (omega arith) (inr refl) h b))
      (λ k. (byte_is t at 0x7D (omega arith) h, byte_not t p 0x7D (omega arith) (omega arith) (not_at p 0x7D k)))

  -- literal text
  plain_seen : (at : TextPlace) → at.0 < length t → is_at t at 0x7B ≡ false → is_at t at 0x7D ≡ false → at.0 < (text_end t at).0
  unfolding is_at is_plain pick
  plain_seen at i h k =
      seen_elim (λ (n : Option Char). sees 0x7B n ≡ false → sees 0x7D n ≡ false → at.0 < (text_end t at).0) t at.0
      (λ e h k. absurd (omega (arith, end_past t at.0 e)))
      (λ c w e h k. text_some t at e (cc)) h k

  text_passed : (at : TextPlace) → at.0 < length t → is_at t at 0x7B ≡ false → is_at t at 0x7D ≡ false →
      Passed t at.0 (Step.Literal (range_of at (text_end t at)))
  text_passed at i h k =
      let plain = ⊎_elim (byte_not t at 0x7B (omega arith) (omega arith) h) (byte_not t at 0x7D (omega arith) (omega arith) k) in
      view_passed at.0 at.0 at (inl (refl, plain)) (omega arith) (omega arith) (omega arith) (plain_seen at i h k)

  step_passed : (s : State) → s.at.0 ≤ length t → Passed t s.at.0 (step_at t f m s)
  unfolding step_at
  step_passed s l =
      let at : TextPlace = s.at in
      let P : Step → Type 0 = Passed t at.0 in
      pick_elim P (ltb at.0 (length t))
      (λ w.
      pick_elim P (consumed t at 0x7B).ate
      (λ k. rw (eaten at 0x7B k) (open_passed at s.next (was_at at 0x7B k)))
      (λ k.
      pick_elim P (consumed t at 0x7D).ate
      (λ c. rw (eaten at 0x7D c) (close_passed at (was_at at 0x7D c)))
      (λ c. text_passed at (ltb-true at.0 (length t) w) (not_at at 0x7B k) (not_at at 0x7D c))))
      (λ w. omega (arith, ltb-false at.0 (length t) w))

module _ (t : List ℕ) (f : Frame) (m : Mode) where
  -- how steps end: at the end with no fault of kind 1, or at a lone `}` with one
  abbrev Ends : ℕ → List Fault → Type 0
  Ends stop xs = ((stop ≡ length t) × Others xs) ⊎ (Lone t stop × Told xs)

  later : (stop : ℕ) (xs ys : List Fault) → Others xs → Ends stop ys → Ends stop (xs ++ ys)
  later stop xs ys o (inl h) = inl (h.0, others_append xs ys o h.1)
  later stop xs ys o (inr h) = inr (h.0, told_after xs ys h.1)

  -- what steps cover from byte i on
  record Tiled (i : ℕ) (xs : List Step) : Type 0 where
    stop : ℕ
    tiles : Tiles t i (gather pieces_of xs) stop
    ends : Ends stop (gather faults_of xs)

  then : (s : State) (x : Step) (go : State → List Step) → Passed t s.at.0 x →
      ((q : State) → q.at.0 ≤ length t → s.at.0 < q.at.0 → Tiled q.at.0 (go q)) →
      Tiled s.at.0 (x ∷ follow go (onward s x))
  unfolding gather faults_of step_slots wrong pick argument_wants
  then s Step.End go p more = record { stop = s.at.0; tiles = refl; ends = inl (p, tt) }
  then s (Step.Stop q) go p more = record { stop = s.at.0; tiles = refl; ends = inr (p, (q, inl refl)) }
  then s (Step.Literal r) go p more =
      let v = p.view in
      let b : s.at.0 < r.end.0 = ⊎_elim (λ h. omega (arith, h.0, v.some)) (λ h. omega (arith, h.0, v.some)) v.begins in
      let x = more (state_of r.end s.next s.arguments) p.inside b in
      record { stop = x.stop; tiles = (v, x.tiles); ends = x.ends }
  then s (Step.Placeholder y) go p more =
      let x = more (state_of y.at y.next (larger s.arguments (argument_wants y.argument))) p.inside p.on in
      record {
        stop = x.stop;
        tiles = rw p.stands (record { begins = p.starts; brace = p.brace; some = p.on }, x.tiles);
        ends = later x.stop (faults_of (Step.Placeholder y)) _ (wrong_others (step_slots (Step.Placeholder y)) (placeholder_others y)) x.ends;
      }

  tiled : (k : ℕ) (s : State) → s.at.0 ≤ length t → length t < s.at.0 + k → Tiled s.at.0 (steps_from k t f m s)
  unfolding steps_from
  tiled zero s l h = absurd (omega arith)
  tiled (suc k) s l h =
      then s (step_at t f m s) (steps_from k t f m) (step_passed t f m s l) (λ q a b. tiled k q a (omega arith))

  -- nothing stands at the end, so no lone `}`
  none_last : ¬ Lone t (length t)
  none_last h = let z : byte_at t (length t) ≡ 0 = get_or-eq_default t 0 (omega arith) in omega (arith, h.0)

  -- THE COVER
  pub covered : Covered t (pieces t f m) (errors t f m)
  unfolding pieces reading
  covered =
      let x = tiled (length t + 1) start (omega arith) (omega arith) in
      record {
        stop = x.stop;
        tiles = x.tiles;
        stops = ⊎_elim (λ h. inl h.0) (λ h. inr h.0) x.ends;
        told =
            ⊎_elim
            (λ h. (λ r. absurd (others_errors t f m h.1 r), λ l. absurd (none_last (rw h.0 at l))))
            (λ h. (λ r. h.0, λ l. told_errors t f m h.1))
            x.ends;
      }
