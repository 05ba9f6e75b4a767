-- Kind 1 is a lone `}`'s alone: it is recorded where one is among the faults, and no flaw, gap or hint of a placeholder is of kind 1.
-- Rests on the order of records.
use Rattle.std.specs.Prelude.{◌≡◌, refl, ◌⊎◌, List, [], ◌∷◌, ◌++◌, false, ℕ, eqb}
use Rattle.std.proofs.Common.{inl, inr}
use Rattle.std.proofs.lemmas.Bool.{eqb-false}
use Rattle.utf8.specs.Choice.{pick}
use Rattle.frame.specs.declared.TextPlace.{TextPlace}
use Rattle.frame.specs.declared.Frame.{Frame}
use Rattle.frame.specs.declared.Mode.{Mode}
use Rattle.scan.specs.declared.Flaw.{Flaw}
use Rattle.placeholder.specs.declared.ArgumentFlaws.{ArgumentFlaws}
use Rattle.closing.specs.declared.recover.Gap.{Gap}
use Rattle.closing.specs.declared.recover.Hint.{Hint}
use Rattle.closing.specs.declared.recover.Recovery.{Recovery}
use Rattle.closing.specs.declared.whole.Closing.{Closing}
use Rattle.closing.specs.declared.whole.PlaceholderRead.{PlaceholderRead}
use Rattle.reading.specs.Faults.{is_clean, flaw_fault, gap_fault, hint_fault, argument_slots, missing_slots, closing_slots, step_slots, wrong, faults_of, Finding}
use Rattle.reading.specs.Records.{is_front, record_of}
use Rattle.reading.specs.Steps.{reading}
use Rattle.reading.specs.Lists.{gather, front_only, back_only, reversed, listed, records, found, errors}
use Rattle.reading.specs.declared.Fault.{Fault}
use Rattle.reading.specs.declared.Step.{Step}
use Rattle.laws.specs.ListLaws.{faults_in, faults_append, found_faults}
use Rattle.laws.specs.RecordLaws.{kind_of, record_parts}
use Rattle.grammar.specs.Cover.{Recorded}
use Rattle.unique.specs.Device.Runs.{case_b}

-- a fault of another kind
abbrev pub Other : Fault → Type 0
Other x = eqb (kind_of x) 1 ≡ false

-- a list of such
abbrev pub Others : List Fault → Type 0
Others [] = Unit {0}
Others (x ∷ xs) = Other x × Others xs

pub others_append : (xs ys : List Fault) → Others xs → Others ys → Others (xs ++ ys)
others_append [] ys h k = k
others_append (x ∷ xs) ys h k = (h.0, others_append xs ys h.1 k)

-- NO FAULT OF KIND 1: none is recorded
front_others : (xs : List Finding) → Others (faults_in xs) → Others (faults_in (front_only xs))
unfolding front_only pick
front_others [] h = h
front_others (x ∷ xs) h = case_b (is_front x.fault) (λ k. rw k (h.0, front_others xs h.1)) (λ k. rw k (front_others xs h.1))

back_others : (xs : List Finding) → Others (faults_in xs) → Others (faults_in (back_only xs))
unfolding back_only pick
back_others [] h = h
back_others (x ∷ xs) h = case_b (is_front x.fault) (λ k. rw k (back_others xs h.1)) (λ k. rw k (h.0, back_others xs h.1))

both_others : (xs ys : List Finding) → Others (faults_in xs) → Others (faults_in ys) → Others (faults_in (xs ++ ys))
both_others xs ys h k = rw (faults_append xs ys) (others_append (faults_in xs) (faults_in ys) h k)

reversed_others : (xs : List Finding) → Others (faults_in xs) → Others (faults_in (reversed xs))
unfolding reversed
reversed_others [] h = h
reversed_others (x ∷ xs) h = both_others (reversed xs) (x ∷ []) (reversed_others xs h.1) (h.0, tt)

pub wrong_others : (xs : List Fault) → Others xs → Others (wrong xs)
unfolding wrong pick
wrong_others [] h = h
wrong_others (x ∷ xs) h = case_b (is_clean x) (λ k. rw k (wrong_others xs h.1)) (λ k. rw k (h.0, wrong_others xs h.1))

not_recorded : (t : List ℕ) (f : Frame) (xs : List Finding) → Others (faults_in xs) → Recorded 1 (records t f xs) → ⊥
unfolding records
not_recorded t f [] h k = k
not_recorded t f (x ∷ xs) h (inl e) = eqb-false (kind_of x.fault) 1 h.0 (rw (record_parts t f x.piece x.fault) at e)
not_recorded t f (x ∷ xs) h (inr k) = not_recorded t f xs h.1 k

pub others_errors : (t : List ℕ) (f : Frame) (m : Mode) → Others (gather faults_of (reading t f m)) → Recorded 1 (errors t f m) → ⊥
unfolding errors listed found
others_errors t f m k =
    let xs : List Finding = found t f m in
    let h : Others (faults_in xs) = rw (found_faults 0 (reading t f m)) k in
    let front = reversed_others (front_only xs) (front_others xs h) in
    not_recorded t f (reversed (front_only xs) ++ back_only xs) (both_others (reversed (front_only xs)) (back_only xs) front (back_others xs h))

-- A LONE `}` AMONG FAULTS
abbrev In : Fault → List Fault → Type 0
In y [] = ⊥
In y (x ∷ xs) = (x ≡ y) ⊎ In y xs

in_right : (y : Fault) (xs ys : List Fault) → In y ys → In y (xs ++ ys)
in_right y [] ys h = h
in_right y (x ∷ xs) ys h = inr (in_right y xs ys h)

-- a lone `}` is recorded at the back, as kind 1
in_back : (p : TextPlace) (xs : List Finding) → In (Fault.Unmatched p) (faults_in xs) → In (Fault.Unmatched p) (faults_in (back_only xs))
unfolding back_only pick
in_back p [] h = h
in_back p (x ∷ xs) (inl e) = rw e (inl refl)
in_back p (x ∷ xs) (inr h) = case_b (is_front x.fault) (λ k. rw k (in_back p xs h)) (λ k. rw k (inr (in_back p xs h)))

in_records : (t : List ℕ) (f : Frame) (p : TextPlace) (xs : List Finding) → In (Fault.Unmatched p) (faults_in xs) → Recorded 1 (records t f xs)
unfolding records record_of
in_records t f p [] h = h
in_records t f p (x ∷ xs) (inl e) = inl (rw e)
in_records t f p (x ∷ xs) (inr h) = inr (in_records t f p xs h)

-- a list that has one
abbrev pub Told : List Fault → Type 0
Told xs = (p : TextPlace) × In (Fault.Unmatched p) xs

pub told_after : (xs ys : List Fault) → Told ys → Told (xs ++ ys)
told_after xs ys h = (h.0, in_right (Fault.Unmatched h.0) xs ys h.1)

pub told_errors : (t : List ℕ) (f : Frame) (m : Mode) → Told (gather faults_of (reading t f m)) → Recorded 1 (errors t f m)
unfolding errors listed found
told_errors t f m h =
    let xs : List Finding = found t f m in
    let front = reversed (front_only xs) in
    let one : In (Fault.Unmatched h.0) (faults_in xs) = rw (found_faults 0 (reading t f m)) h.1 in
    in_records t f h.0 (front ++ back_only xs)
    (rw (faults_append front (back_only xs)) (in_right (Fault.Unmatched h.0) (faults_in front) (faults_in (back_only xs)) (in_back h.0 xs one)))

-- A PLACEHOLDER'S: what a leaf found, that a closing brace is missing, and what is said there
flaw_other : (x : Flaw) → Other (flaw_fault x)
flaw_other Flaw.Clean = refl
flaw_other (Flaw.RawName r) = refl
flaw_other (Flaw.AfterDebug p) = refl
flaw_other (Flaw.Underscore r) = refl
flaw_other (Flaw.TooLarge r) = refl

gap_other : (x : Gap) → Other (gap_fault x)
gap_other (Gap.Before p why) = refl
gap_other (Gap.AtEnd why) = refl

hint_other : (brace : TextPlace) (x : Hint) → Other (hint_fault brace x)
hint_other brace Hint.Silent = refl
hint_other brace (Hint.DebugFirst p r) = refl
hint_other brace (Hint.NoColon p) = refl
hint_other brace (Hint.Equals p) = refl
hint_other brace (Hint.Misplaced p) = refl
hint_other brace (Hint.PlusFirst p) = refl
hint_other brace (Hint.Field a b) = refl
hint_other brace (Hint.TupleIndex a b) = refl
hint_other brace (Hint.Comma p) = refl

argument_others : (a : ArgumentFlaws) → Others (argument_slots a)
unfolding argument_slots
argument_others a =
    (flaw_other a.place, (flaw_other a.raw, (flaw_other a.width, (flaw_other a.precision, (flaw_other a.typetext, tt)))))

missing_others : (brace : TextPlace) (gap : Gap) (on : Recovery) → Others (missing_slots brace gap on)
unfolding missing_slots
missing_others brace gap on = (
  gap_other gap,
  (
    flaw_other on.word,
    others_append (argument_slots on.field) (hint_fault brace on.hint ∷ []) (argument_others on.field) (hint_other brace on.hint, tt),
  ),
)

closing_others : (brace : TextPlace) (c : Closing) → Others (closing_slots brace c)
unfolding closing_slots
closing_others brace (Closing.Closed p) = tt
closing_others brace (Closing.Missing gap on) = missing_others brace gap on

pub placeholder_others : (p : PlaceholderRead) → Others (step_slots (Step.Placeholder p))
unfolding step_slots
placeholder_others p =
    let brace : TextPlace = p.argument.range.start in
    others_append (argument_slots p.flaws) (closing_slots brace p.closing) (argument_others p.flaws) (closing_others brace p.closing)
