-- The moves of a reading are those that are told: each character before the place where reading stopped once, a lone `}` there, and what was given
-- back. Rests on MoveLaws, Moves, StateLaws and StepLaws, and on the laws of what reading passes.
use Prim.Native.Nat.{ℕ, zero, suc, ◌+◌, ◌-◌, ◌*◌, ◌≤◌, ◌<◌}
use Rattle.std.proofs.Math.Path.{◌≡◌, refl, ap}
use Rattle.std.proofs.Common.{sym, ◌∙◌, arith, lt-ltb, le-ltb, ltb-true, ltb-false, Option, Some, None}
use Rattle.std.specs.Prelude.{Bool, List, [], ◌∷◌, ltb}
use Rattle.std.proofs.Math.Bool.{true, false}
use Rattle.std.proofs.Math.Nat.{add-zero}
use Rattle.std.proofs.Math.ListN.{length}
use Rattle.utf8.specs.Choice.{pick, either}
use Rattle.utf8.specs.ChoiceLaws.{pick_elim}
use Rattle.utf8.specs.Utf8.{peek_at, char}
use Rattle.utf8.specs.Chars.{Ch, chars_of}
use Rattle.utf8.specs.CharLaws.{peeked, before_more, before_past}
use Rattle.frame.specs.Places.{range_of}
use Rattle.frame.specs.declared.Frame.{Frame}
use Rattle.frame.specs.declared.Mode.{Mode}
use Rattle.frame.specs.declared.TextPlace.{TextPlace}
use Rattle.scan.specs.Characters.{is_at, consumed, text_end}
use Rattle.scan.specs.ScanLaws.{is_at_seen, consumed_is, consumed_some}
use Rattle.scan.specs.ReachLaws.{Reached, reached_none, reached_then, reached_consumed, reached_text, reached_left}
use Rattle.closing.specs.Wholes.{missing_read, placeholder_read}
use Rattle.closing.specs.OnwardLaws.{placeholder_onward, placeholder_given}
use Rattle.closing.specs.declared.whole.PlaceholderRead.{PlaceholderRead}
use Rattle.reading.specs.Lines.{chars_in}
use Rattle.reading.specs.Moves.{brace_at, step_moves, moves_in, moves}
use Rattle.reading.specs.Steps.{after_open, after_close, step_at, onward, follow, steps_from, start, reading}
use Rattle.reading.specs.declared.State.{State}
use Rattle.reading.specs.declared.Step.{Step}
use Rattle.laws.specs.StateLaws.{standing, last_state}
use Rattle.laws.specs.StepLaws.{Later, step_later, steps_none}
use Rattle.laws.specs.WalkLaws.{steps_on, steps_over}
use Rattle.laws.specs.MoveLaws.{given_by, given_in, given, stop_of, lone, moves_told, given_over}

-- a placeholder's range goes to where reading stood afterwards
range_whole : (t : List ℕ) (f : Frame) (m : Mode) (brace at : TextPlace) (n : ℕ) →
    (placeholder_read t f m brace at n).argument.range ≡ range_of brace (placeholder_read t f m brace at n).at
unfolding placeholder_read missing_read
range_whole t f m brace at n = pick_elim (λ (r : PlaceholderRead). r.argument.range ≡ range_of brace r.at) _ (λ _. refl) (λ _. refl)

-- what is asked of a step: where reading goes on, whole characters were passed, and they and what was given back are its moves; where it is
-- over, the text has ended, or a lone `}` stands there
abbrev Moved : List ℕ → State → Step → Option State → Type 0
Moved t s x None = step_moves t x ≡ lone t s.at.0
Moved t s x (Some s') = Reached t s.at.0 s'.at.0 × (step_moves t x ≡ length (chars_of t s.at.0 s'.at.0) + given_by x)

module _ (t : List ℕ) where
  -- a brace, or none
  brace_none : (at : TextPlace) → is_at t at 0x7B ≡ false → is_at t at 0x7D ≡ false → brace_at t at ≡ 0
  unfolding brace_at pick
  brace_none at o c = rw (o, c)

  brace_open : (at : TextPlace) → is_at t at 0x7B ≡ true → brace_at t at ≡ 1
  unfolding brace_at pick
  brace_open at y = rw y

  brace_close : (at : TextPlace) → is_at t at 0x7D ≡ true → brace_at t at ≡ 1
  unfolding brace_at pick
  brace_close at y = rw y (go (is_at t at 0x7B))
    where
      go : (b : Bool) → ◌≡◌ {A = ℕ} (pick (either b true) 1 0) 1
      go true = refl
      go false = refl

  -- a character by itself is one
  single : (i : ℕ) {c w : ℕ} → peek_at t i ≡ Some (char c w) → length (chars_of t i (i + w)) ≡ 1
  single i {c} {w} e =
      ap length (before_more t (i + w) i (omega (arith, (peeked t i e).some)) e) ∙ ap (λ (l : List Ch). suc (length l)) (before_past t (i + w) (i + w) (omega arith))

  -- a doubled brace: its first, and the view from its second on
  doubled : (at : TextPlace) (c : ℕ) → c < 0x80 → (consumed t at c).ate ≡ true →
      let second = (consumed t at c).at in
      brace_at t second ≡ 1 →
      let end = text_end t (consumed t second c).at in
      Reached t at.0 end.0 × (brace_at t second + length (chars_in t (range_of second end)) ≡ length (chars_of t at.0 end.0) + 0)
  unfolding chars_in
  doubled at c l y b =
      let second = (consumed t at c).at in
      let end = text_end t (consumed t second c).at in
      let first = reached_consumed t at c l in
      let rest = reached_then (reached_consumed t second c l) (reached_text t (consumed t second c).at) in
      let whole = reached_then first rest in
      let one : length (chars_of t at.0 second.0) ≡ 1 =
      ap (λ (k : ℕ). length (chars_of t at.0 k)) (consumed_some t at c y) ∙ single at.0 (is_at_seen t at c l (sym (consumed_is t at c) ∙ y)) in
      (whole, omega (arith, b, one, reached_left first, reached_left rest, reached_left whole))

  module _ (f : Frame) (m : Mode) where
    -- after an opening brace
    open_moved : (s : State) → (consumed t s.at 0x7B).ate ≡ true →
        let x = after_open t f m s.at (consumed t s.at 0x7B).at s.next in Moved t s x (onward s x)
    unfolding after_open chars_in consumed
    open_moved s y =
        let at = (consumed t s.at 0x7B).at in
        pick_elim (λ (x : Step). Moved t s x (onward s x)) _
        (λ y2. doubled s.at 0x7B (omega arith) y (brace_open at y2))
        (λ _.
        let p = reached_then (reached_consumed t s.at 0x7B (omega arith)) (placeholder_onward t f m s.at at s.next).reached in
        (p, rw (range_whole t f m s.at at s.next) refl))

    -- after a closing brace
    close_moved : (s : State) → s.at.0 < length t → (consumed t s.at 0x7D).ate ≡ true →
        let x = after_close t s.at (consumed t s.at 0x7D).at in Moved t s x (onward s x)
    unfolding after_close consumed lone pick
    close_moved s l y =
        let at = (consumed t s.at 0x7D).at in
        pick_elim (λ (x : Step). Moved t s x (onward s x)) _
        (λ y2. doubled s.at 0x7D (omega arith) y (brace_close at y2))
        (λ _. rw (lt-ltb s.at.0 (length t) l) refl)

    -- at the end there is none
    at_end : (s : State) → length t ≤ s.at.0 → 0 ≡ lone t s.at.0
    unfolding lone pick
    at_end s h = rw (le-ltb s.at.0 (length t) h) refl

    -- each step's
    step_moved : (s : State) → Moved t s (step_at t f m s) (onward s (step_at t f m s))
    unfolding step_at chars_in consumed
    step_moved s =
        let P : Step → Type 0 = λ x. Moved t s x (onward s x) in
        pick_elim P _
        (λ l.
        pick_elim P _ (λ y. open_moved s y)
        (λ o.
        pick_elim P _ (λ y. close_moved s (ltb-true s.at.0 (length t) l) y)
        (λ d. (reached_text t s.at, rw (brace_none s.at o d) (omega arith)))))
        (λ e. at_end s (ltb-false s.at.0 (length t) e))

    -- what is asked of the steps from a state
    record Walked (s : State) (stop : ℕ) (xs : List Step) : Type 0 where
      pub reached : Reached t s.at.0 stop
      pub count : moves_in t xs ≡ length (chars_of t s.at.0 stop) + lone t stop + given_in xs

    walked : (k : ℕ) (s : State) → length t - s.at.0 < k → Walked s (last_state k t f m s).at.0 (steps_from k t f m s)
    unfolding last_state steps_from moves_in given_in
    walked zero s h = absurd (omega arith)
    walked (suc k) s h = go (onward s (step_at t f m s)) refl (step_moved s) (λ s' l. walked k s' (omega (arith, l)))
      where
        go : (o : Option State) → onward s (step_at t f m s) ≡ o → Moved t s (step_at t f m s) o →
            ((s' : State) → Later t s s' → Walked s' (last_state k t f m s').at.0 (steps_from k t f m s')) →
            Walked s (standing (last_state k t f m) s o).at.0 (step_at t f m s ∷ follow (steps_from k t f m) o)
        go None e p on =
            record {
              reached = reached_none s.at.0;
              count = omega (arith, p, given_over t f m s (step_at t f m s) e, ap length (before_past t s.at.0 s.at.0 (omega arith)));
            }
        go (Some s') e p on =
            let w = on s' (step_later t f m s e) in
            let whole = reached_then p.0 w.reached in
            record {
              reached = whole;
              count = omega (arith, p.1, w.count, reached_left p.0, reached_left w.reached, reached_left whole);
            }

-- THE MOVES ARE THOSE THAT ARE TOLD
pub moves_told_lem : (t : List ℕ) (f : Frame) (m : Mode) → moves t f m ≡ moves_told t (stop_of t f m) (given t f m)
unfolding moves moves_told stop_of given reading
moves_told_lem t f m = (walked t f m (length t + 1) start (omega arith)).count

-- where it is over the moves are told of the state there and of the sum
pub moves_over : (t : List ℕ) (f : Frame) (m : Mode) (s : State) (n : ℕ) → s ≡ last_state (length t + 1) t f m start → n ≡ given t f m →
    moves_told t s.at.0 n ≡ moves t f m
unfolding stop_of
moves_over t f m s n e g = ap (λ (s : State). moves_told t s.at.0 n) e ∙ ap (moves_told t (stop_of t f m)) g ∙ sym (moves_told_lem t f m)
