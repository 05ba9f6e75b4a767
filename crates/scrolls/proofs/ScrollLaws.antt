-- The law for the editor holds of every reading (Scrolling): a placeholder's faults are recorded before its own piece is listed and stand after its brace,
-- and a lone `}` is the last step. Rests on AmongLaws, FoundLaws, StepLaws and ListLaws.
use Rattle.std.specs.Prelude.{ℕ, ◌+◌, ◌≤◌, ◌<◌, ◌≡◌, Some}
use Rattle.std.proofs.Math.Path.{refl, sym, ap, subst}
use Rattle.std.proofs.Common.{◌∙◌, le_refl, le_trans, arith, le-ltb, get_or-append-add}
use mathlib.Core.List.{List, [], ◌∷◌, ◌++◌, append_assoc}
use Rattle.std.proofs.Math.ListN.{length, length-append}
use Rattle.utf8.specs.Choice.{pick}
use Rattle.utf8.specs.ChoiceLaws.{pick_elim}
use Rattle.frame.specs.Places.{place}
use Rattle.frame.specs.Spans.{start_of, span_between}
use Rattle.frame.specs.declared.TextPlace.{TextPlace}
use Rattle.frame.specs.declared.Frame.{Frame}
use Rattle.frame.specs.declared.Mode.{Mode}
use Rattle.scan.specs.Ends.{span_across}
use Rattle.scan.specs.ScanLaws.{consumed_on, consumed_in, past_on}
use Rattle.closing.specs.Wholes.{missing_read, placeholder_read}
use Rattle.closing.specs.declared.whole.PlaceholderRead.{PlaceholderRead}
use Rattle.reading.specs.Steps.{after_open, after_close, step_at, onward, reading}
use Rattle.reading.specs.Faults.{step_slots, faults_of, Finding, marked}
use Rattle.reading.specs.Records.{record_of}
use Rattle.reading.specs.Lists.{gather, pieces_of, pieces, listed, findings, found, errors}
use Rattle.reading.specs.declared.ErrorRecord.{ErrorRecord}
use Rattle.reading.specs.declared.Fault.{Fault}
use Rattle.reading.specs.declared.Piece.{Piece}
use Rattle.reading.specs.declared.State.{State}
use Rattle.reading.specs.declared.Step.{Step}
use Rattle.laws.specs.StepLaws.{step_later, Run, reading_run}
use Rattle.laws.specs.RecordLaws.{record_parts}
use Rattle.laws.specs.ListLaws.{gather_append, gather_more, gather_one, findings_more, findings_none}
use Rattle.scrolls.specs.AmongLaws.{Among, among_none, among_only, among_right, Every, every_none, every_append, among_wrong, among_marked, among_listed, among_records}
use Rattle.scrolls.specs.FoundLaws.{FaultBetween, placeholder_between}
use Rattle.scrolls.specs.Scrolling.{found_at, Scroll, ErrorScroll, Scrolls}

-- a fault whose places stand from a byte on was found there or later
found_from : (t : List ℕ) {low : ℕ} (x : Fault) → low ≤ length t → FaultBetween t low x → low ≤ (found_at t x).0
found_from t Fault.Clean l h = l
found_from t (Fault.Unmatched p) l h = h.0
found_from t (Fault.Expected p why) l h = h.0
found_from t (Fault.Unclosed why) l h = l
found_from t (Fault.RawName r) l h = h.0.0
found_from t (Fault.AfterDebug p) l h = le_trans h.0 (past_on t p)
found_from t (Fault.Underscore r) l h = h.0.0
found_from t (Fault.TooLarge r) l h = h.0.0
found_from t (Fault.DebugFirst p r) l h = h.0.0
found_from t (Fault.NoColon p) l h = h.0
found_from t (Fault.Equals p brace) l h = h.0
found_from t (Fault.Misplaced p) l h = h.0
found_from t (Fault.PlusFirst p) l h = h.0
found_from t (Fault.Field a b) l h = h.0.0
found_from t (Fault.TupleIndex a b) l h = h.0.0
found_from t (Fault.Comma p brace) l h = h.0

module _ (t : List ℕ) (f : Frame) where
  -- past the text stands "end"
  start_end : start_of t f (place (length t)) ≡ f.end
  unfolding start_of pick
  start_end = rw (le-ltb (length t) (length t) (le_refl (length t)))

  -- a record's span starts where its fault was found
  pub span_found : (n : ℕ) (x : Fault) → (record_of t f n x).span.start ≡ start_of t f (found_at t x)
  unfolding record_of span_across span_between
  span_found n Fault.Clean = sym start_end
  span_found n (Fault.Unmatched p) = refl
  span_found n (Fault.Expected p why) = refl
  span_found n (Fault.Unclosed why) = sym start_end
  span_found n (Fault.RawName r) = refl
  span_found n (Fault.AfterDebug p) = refl
  span_found n (Fault.Underscore r) = refl
  span_found n (Fault.TooLarge r) = refl
  span_found n (Fault.DebugFirst p r) = refl
  span_found n (Fault.NoColon p) = refl
  span_found n (Fault.Equals p brace) = refl
  span_found n (Fault.Misplaced p) = refl
  span_found n (Fault.PlusFirst p) = refl
  span_found n (Fault.Field a b) = refl
  span_found n (Fault.TupleIndex a b) = refl
  span_found n (Fault.Comma p brace) = refl

-- the faults of a placeholder were found at or after its opening brace
abbrev FoundAfter : List ℕ → Step → Type 0
FoundAfter t Step.End = Unit {0}
FoundAfter t (Step.Stop p) = Unit {0}
FoundAfter t (Step.Literal r) = Unit {0}
FoundAfter t (Step.Placeholder p) = Every (λ (x : Fault). p.argument.range.start.0 ≤ (found_at t x).0) (faults_of (Step.Placeholder p))

module _ (t : List ℕ) (f : Frame) (m : Mode) where
  -- an argument's bytes start at its brace
  brace_first : (brace at : TextPlace) (n : ℕ) → (placeholder_read t f m brace at n).argument.range.start ≡ brace
  unfolding placeholder_read missing_read
  brace_first brace at n = pick_elim (λ (p : PlaceholderRead). p.argument.range.start ≡ brace) _ (λ _. refl) (λ _. refl)

  placeholder_after : (brace at : TextPlace) (n : ℕ) → brace.0 ≤ at.0 → at.0 ≤ length t →
      FoundAfter t (Step.Placeholder (placeholder_read t f m brace at n))
  unfolding faults_of
  placeholder_after brace at n l h x among =
      rw (brace_first brace at n)
      (found_from t x (le_trans l h) (placeholder_between t brace.0 f m brace at (l, h) n x (among_wrong _ among)))

  step_after : (s : State) → s.at.0 ≤ length t → FoundAfter t (step_at t f m s)
  unfolding step_at after_open after_close
  step_after s h =
      let P = FoundAfter t in
      pick_elim P _
      (λ _.
      pick_elim P _
      (λ _.
      pick_elim P _ (λ _. tt) (λ _. placeholder_after s.at _ s.next (consumed_on t s.at 0x7B) (consumed_in t s.at 0x7B h)))
      (λ _. pick_elim P _ (λ _. pick_elim P _ (λ _. tt) (λ _. tt)) (λ _. tt)))
      (λ _. tt)

-- a lone `}` is the last step
abbrev Ends : Step → List Step → Type 0
Ends Step.End xs = Unit {0}
Ends (Step.Stop p) xs = xs ≡ []
Ends (Step.Literal r) xs = Unit {0}
Ends (Step.Placeholder p) xs = Unit {0}

ends_last : (x : Step) → Ends x []
ends_last Step.End = tt
ends_last (Step.Stop p) = refl
ends_last (Step.Literal r) = tt
ends_last (Step.Placeholder p) = tt

ends_more : (s : State) (x : Step) (xs : List Step) {a : State} → onward s x ≡ Some a → Ends x xs
ends_more s Step.End xs e = tt
ends_more s (Step.Stop p) xs e = cc
ends_more s (Step.Literal r) xs e = tt
ends_more s (Step.Placeholder p) xs e = tt

module _ (t : List ℕ) (f : Frame) (m : Mode) where
  -- the pieces of some steps
  abbrev listed_in : List Step → List Piece
  listed_in xs = gather pieces_of xs

  -- the pieces of a reading: those before a step, its own, those after it
  pieces_split : (ps : List Step) (x : Step) (xs : List Step) → reading t f m ≡ ps ++ (x ∷ xs) → pieces t f m ≡ listed_in ps ++ (pieces_of x ++ listed_in xs)
  unfolding pieces
  pieces_split ps x xs e = ap (gather pieces_of) e ∙ gather_append pieces_of ps (x ∷ xs) ∙ rw (gather_more pieces_of x xs)

  module _ (ps xs : List Step) (x : Finding) (number : x.piece ≡ length (listed_in ps)) where
    -- a fault of a placeholder has the placeholder's own number
    own_scroll : (p : PlaceholderRead) → reading t f m ≡ ps ++ (Step.Placeholder p ∷ xs) → FoundAfter t (Step.Placeholder p) →
        Among x.fault (faults_of (Step.Placeholder p)) → Scroll t f m x
    own_scroll p e after among =
        let split = pieces_split ps (Step.Placeholder p) xs e in
        let first : length (listed_in ps) ≡ length (listed_in ps) + 0 = omega arith in
        let one = Piece.Placeholder p.argument ∷ listed_in xs in
        let less : x.piece < length (pieces t f m) = rw split (omega (arith, number, length-append (listed_in ps) one)) in
        record {
          number = omega (arith, less);
          own =
              λ _.
              record {
                read = p;
                step = subst (Among (Step.Placeholder p)) (sym e) (among_right ps (Among.here refl));
                fault = among;
                piece = λ d. rw (split, number ∙ first) (get_or-append-add (listed_in ps) one 0 d);
                before = after x.fault among;
              };
          lone = λ all. absurd (omega (arith, less, all));
        }

    -- a lone `}` has the number of all pieces
    lone_scroll : (p : TextPlace) → reading t f m ≡ ps ++ (Step.Stop p ∷ []) → x.fault ≡ Fault.Unmatched p → Scroll t f m x
    unfolding gather
    lone_scroll p e fault =
        let all : x.piece ≡ length (pieces t f m) = rw (pieces_split ps (Step.Stop p) [] e) (omega (arith, number, length-append (listed_in ps) (listed_in []))) in
        record {
          number = omega (arith, all);
          own = λ less. absurd (omega (arith, less, all));
          lone = λ _. record { at = p; step = subst (Among (Step.Stop p)) (sym e) (among_right ps (Among.here refl)); fault = fault };
        }

  -- each finding of a step
  step_scroll : (ps xs : List Step) (x : Step) → reading t f m ≡ ps ++ (x ∷ xs) → FoundAfter t x → Ends x xs →
      Every (Scroll t f m) (marked (length (listed_in ps)) (faults_of x))
  unfolding faults_of step_slots
  step_scroll ps xs Step.End e after end y among = absurd (among_none (among_wrong [] (among_marked _ _ among).1))
  step_scroll ps xs (Step.Literal r) e after end y among = absurd (among_none (among_wrong [] (among_marked _ _ among).1))
  step_scroll ps xs (Step.Stop p) e after end y among =
      let one = among_marked (length (listed_in ps)) (faults_of (Step.Stop p)) among in
      lone_scroll ps xs y one.0 p (rw end at e) (among_only (among_wrong (Fault.Unmatched p ∷ []) one.1))
  step_scroll ps xs (Step.Placeholder p) e after end y among =
      let one = among_marked (length (listed_in ps)) (faults_of (Step.Placeholder p)) among in
      own_scroll ps xs y one.0 p e after one.1

  -- the pieces of one step more
  listed_more : (ps : List Step) (x : Step) → length (listed_in (ps ++ (x ∷ []))) ≡ length (listed_in ps) + length (pieces_of x)
  listed_more ps x = rw (gather_append pieces_of ps (x ∷ []), gather_one pieces_of x, length-append (listed_in ps) (pieces_of x))

  -- each finding of the steps after some, which end a reading
  After : List Step → List Step → Type 0
  After ps xs = reading t f m ≡ ps ++ xs → Every (Scroll t f m) (findings (length (listed_in ps)) xs)

  after_none : (ps : List Step) → After ps []
  unfolding After
  after_none ps all = rw (findings_none (length (listed_in ps))) (every_none (Scroll t f m))

  after_more : (ps xs : List Step) (x : Step) (s : State) → s.at.0 ≤ length t → x ≡ step_at t f m s → Ends x xs → After (ps ++ (x ∷ [])) xs → After ps (x ∷ xs)
  unfolding After
  after_more ps xs x s h e end rest all =
      rw (findings_more (length (listed_in ps)) x xs)
      (every_append (Scroll t f m) (marked (length (listed_in ps)) (faults_of x))
      (step_scroll ps xs x all (subst (FoundAfter t) (sym e) (step_after t f m s h)) end)
      (rw listed_more at (rest (all ∙ sym (append_assoc ps (x ∷ []) xs)))))

  after_run : {s : State} {xs : List Step} → s.at.0 ≤ length t → Run t f m s xs → (ps : List Step) → After ps xs
  after_run {s} h (Run.last {x = x} e o) = λ ps. after_more ps [] x s h e (ends_last x) (after_none (ps ++ (x ∷ [])))
  after_run {s} h (Run.more {x = x} {xs = xs} e o r) =
      let later = step_later t f m s (ap (onward s) (sym e) ∙ o) in
      λ ps. after_more ps xs x s h e (ends_more s x xs o) (after_run later.inside r (ps ++ (x ∷ [])))

  -- each finding of a reading
  findings_scroll : (x : Finding) → Among x (found t f m) → Scroll t f m x
  unfolding found gather After
  findings_scroll = after_run (omega arith) (reading_run t f m) [] refl

  -- each error record
  errors_scroll : (e : ErrorRecord) → Among e (errors t f m) → ErrorScroll t f m e
  unfolding errors
  errors_scroll e among =
      let one = among_records t f (listed (found t f m)) among in
      let x = one.finding in
      let own = among_listed (found t f m) one.among in
      record {
        finding = x;
        among = own;
        same = one.same;
        number = ap (λ (r : ErrorRecord). r.piece) (one.same ∙ record_parts t f x.piece x.fault);
        span = ap (λ (r : ErrorRecord). r.span.start) one.same ∙ span_found t f x.piece x.fault;
        scroll = findings_scroll x own;
      }

  -- THE LAW
  pub reading_scrolls : Scrolls t f m
  reading_scrolls = record { findings = findings_scroll; errors = errors_scroll }

  -- so no record's number passes that of the pieces
  pub errors_numbered : (e : ErrorRecord) → Among e (errors t f m) → e.piece ≤ length (pieces t f m)
  errors_numbered e among = let s = errors_scroll e among in omega (arith, s.number, s.scroll.number)
