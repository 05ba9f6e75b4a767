-- A reading never has more pieces, nor more errors, than its text has bytes: each has a byte of its own that a step passes.
-- Rests on Lists, ListLaws and StepLaws, and on PaidLaws for a placeholder.
use Rattle.std.specs.Prelude.{ℕ, ◌+◌, ◌≤◌, ◌≡◌, refl, true, false, List, [], ◌∷◌, ◌++◌, length, Option, Some, None}
use Rattle.std.proofs.Common.{ap, sym, ◌∙◌, subst, arith, length-append}
use borrow.Author.Tests.{ltb-true}
use Rattle.utf8.specs.Choice.{pick}
use Rattle.utf8.specs.ChoiceLaws.{pick_elim}
use Rattle.frame.specs.declared.Frame.{Frame}
use Rattle.frame.specs.declared.TextPlace.{TextPlace}
use Rattle.scan.specs.Characters.{consumed}
use Rattle.scan.specs.ScanLaws.{consumed_on, consumed_some, text_on}
use Rattle.scan.specs.declared.Flaw.{Flaw}
use Rattle.closing.specs.Recovering.{is_silent}
use Rattle.placeholder.specs.declared.ArgumentFlaws.{ArgumentFlaws}
use Rattle.frame.specs.declared.Mode.{Mode}
use Rattle.closing.specs.declared.recover.Gap.{Gap}
use Rattle.closing.specs.declared.recover.Hint.{Hint}
use Rattle.closing.specs.declared.whole.Closing.{Closing}
use Rattle.reading.specs.Steps.{after_open, after_close, step_at, onward, reading}
use Rattle.laws.specs.StepLaws.{step_later, step_on, Run, reading_run}
use Rattle.reading.specs.Faults.{flaw_fault, gap_fault, hint_fault, argument_slots, missing_slots, closing_slots, step_slots, wrong, faults_of}
use Rattle.reading.specs.Lists.{gather, pieces_of, pieces, errors}
use Rattle.laws.specs.ListLaws.{gather_more, gather_one, errors_length}
use Rattle.laws.specs.PaidLaws.{held, said, held_in, held_on, held_at, placeholder_paid}
use Rattle.reading.specs.declared.Fault.{Fault}
use Rattle.reading.specs.declared.State.{State}
use Rattle.reading.specs.declared.Step.{Step}

-- nothing is wrong in no slot
wrong_none : length (wrong []) ≡ 0
unfolding wrong
wrong_none = refl

-- a leaf's slot adds to what is wrong what the leaf holds
wrong_flaw : (x : Flaw) (xs : List Fault) → length (wrong (flaw_fault x ∷ xs)) ≡ held x + length (wrong xs)
unfolding wrong pick
wrong_flaw Flaw.Clean xs = omega arith
wrong_flaw (Flaw.RawName r) xs = omega arith
wrong_flaw (Flaw.AfterDebug p) xs = omega arith
wrong_flaw (Flaw.Underscore r) xs = omega arith
wrong_flaw (Flaw.TooLarge r) xs = omega arith

-- a closing brace that is missing is one
wrong_gap : (x : Gap) (xs : List Fault) → length (wrong (gap_fault x ∷ xs)) ≡ 1 + length (wrong xs)
unfolding wrong pick
wrong_gap (Gap.Before p why) xs = omega arith
wrong_gap (Gap.AtEnd why) xs = omega arith

-- and so is what is said there
wrong_hint : (brace : TextPlace) (x : Hint) → length (wrong (hint_fault brace x ∷ [])) ≡ said x
unfolding wrong pick said
wrong_hint brace Hint.Silent = refl
wrong_hint brace (Hint.DebugFirst p r) = refl
wrong_hint brace (Hint.NoColon p) = refl
wrong_hint brace (Hint.Equals p) = refl
wrong_hint brace (Hint.Misplaced p) = refl
wrong_hint brace (Hint.PlusFirst p) = refl
wrong_hint brace (Hint.Field a b) = refl
wrong_hint brace (Hint.TupleIndex a b) = refl
wrong_hint brace (Hint.Comma p) = refl

-- so a missing brace alone is one
pub wrong_gap_one : (x : Gap) → length (wrong (gap_fault x ∷ [])) ≡ 1
wrong_gap_one x = omega (arith, wrong_gap x [], wrong_none)

-- silence is none
pub wrong_silent : (brace : TextPlace) (x : Hint) → is_silent x ≡ true → length (wrong (hint_fault brace x ∷ [])) ≡ 0
unfolding said pick
wrong_silent brace x e = wrong_hint brace x ∙ rw e

-- and what is said is one
pub wrong_said : (brace : TextPlace) (x : Hint) → is_silent x ≡ false → length (wrong (hint_fault brace x ∷ [])) ≡ 1
unfolding said pick
wrong_said brace x e = wrong_hint brace x ∙ rw e

-- an argument's five add what they hold
wrong_argument : (a : ArgumentFlaws) (xs : List Fault) → length (wrong (argument_slots a ++ xs)) ≡ held_in a + length (wrong xs)
unfolding argument_slots held_in
wrong_argument a xs =
    let last = flaw_fault a.typetext ∷ xs in
    let precise = flaw_fault a.precision ∷ last in
    let wide = flaw_fault a.width ∷ precise in
    omega (
      arith,
      wrong_flaw a.place (flaw_fault a.raw ∷ wide),
      wrong_flaw a.raw wide,
      wrong_flaw a.width precise,
      wrong_flaw a.precision last,
      wrong_flaw a.typetext xs,
    )

-- and those at the end of a placeholder
wrong_closing : (brace : TextPlace) (c : Closing) → length (wrong (closing_slots brace c)) ≡ held_at c
unfolding closing_slots missing_slots held_on
wrong_closing brace (Closing.Closed p) = wrong_none
wrong_closing brace (Closing.Missing gap on) =
    let hint = hint_fault brace on.hint ∷ [] in
    omega (
      arith,
      wrong_gap gap (flaw_fault on.word ∷ (argument_slots on.field ++ hint)),
      wrong_flaw on.word (argument_slots on.field ++ hint),
      wrong_argument on.field hint,
      wrong_hint brace on.hint,
    )

-- what a step's slots hold, at most
abbrev held_by : Step → ℕ
held_by Step.End = 0
held_by (Step.Stop p) = 1
held_by (Step.Literal r) = 0
held_by (Step.Placeholder p) = held_in p.flaws + held_at p.closing

-- a step has no more faults than that
faults_held : (x : Step) → length (faults_of x) ≤ held_by x
unfolding faults_of step_slots wrong pick
faults_held Step.End = omega (arith, wrong_none)
faults_held (Step.Stop p) = omega arith
faults_held (Step.Literal r) = omega (arith, wrong_none)
faults_held (Step.Placeholder p) = omega (arith, wrong_argument p.flaws (closing_slots p.argument.range.start p.closing), wrong_closing p.argument.range.start p.closing)

-- a step has one piece at most
pub one_piece : (x : Step) → length (pieces_of x) ≤ 1
one_piece Step.End = omega arith
one_piece (Step.Stop p) = omega arith
one_piece (Step.Literal r) = omega arith
one_piece (Step.Placeholder p) = omega arith

-- where reading goes on; where it is over, the end of the text
abbrev goes_to : List ℕ → Option State → ℕ
goes_to t None = length t
goes_to t (Some s) = s.at.0

module _ (t : List ℕ) (f : Frame) (m : Mode) where
  -- a step has no more of something than the bytes from where reading stood to where it goes on
  abbrev Paid : (Step → ℕ) → State → Step → Type 0
  Paid n s x = s.at.0 + n x ≤ goes_to t (onward s x)

  -- and so has each step within the text
  abbrev Pays : (Step → ℕ) → Type 0
  Pays n = (s : State) → s.at.0 ≤ length t → Paid n s (step_at t f m s)

  -- each pays for what its slots hold: a lone `}` and an opening brace with their own byte
  held_paid : Pays held_by
  unfolding step_at after_open after_close
  held_paid s h =
      let P = Paid held_by s in
      let opened = (consumed t s.at 0x7B).at in
      let closed = (consumed t s.at 0x7D).at in
      pick_elim P _
      (λ l.
      let within = ltb-true s.at.0 (length t) l in
      pick_elim P _
      (λ y.
      let one = consumed_some t s.at 0x7B y in
      pick_elim P _ (λ _. omega (arith, consumed_on t opened 0x7B, text_on t (consumed t opened 0x7B).at))
      (λ _. omega (arith, placeholder_paid t f m s.at opened s.next)))
      (λ _.
      pick_elim P _
      (λ _.
      pick_elim P _ (λ _. omega (arith, consumed_on t s.at 0x7D, consumed_on t closed 0x7D, text_on t (consumed t closed 0x7D).at))
      (λ _. omega arith))
      (λ _. omega (arith, text_on t s.at))))
      (λ _. omega arith)

  -- so it pays for its faults
  faults_paid : Pays (λ x. length (faults_of x))
  faults_paid s h = omega (arith, faults_held (step_at t f m s), held_paid s h)

  -- each pays for its piece: a step that has one goes on at a later byte
  pieces_paid : Pays (λ x. length (pieces_of x))
  pieces_paid s h = go (step_at t f m s) refl
    where
      go : (x : Step) → step_at t f m s ≡ x → Paid (λ x. length (pieces_of x)) s x
      go Step.End e = omega arith
      go (Step.Stop p) e = omega arith
      go (Step.Literal r) e = omega (arith, step_on t f m s (ap (onward s) e))
      go (Step.Placeholder p) e = omega (arith, step_on t f m s (ap (onward s) e))

  module _ {B : Type 0} (g : Step → List B) (pays : Pays (λ x. length (g x))) where
    -- what each step pays for is paid for in a run
    run_paid : (s : State) {x : Step} {o : Option State} → s.at.0 ≤ length t → x ≡ step_at t f m s → onward s x ≡ o →
        s.at.0 + length (g x) ≤ goes_to t o
    run_paid s {x} l e o =
        subst (λ (o : Option State). s.at.0 + length (g x) ≤ goes_to t o) o (subst (Paid (λ x. length (g x)) s) (sym e) (pays s l))

    -- so a run has no more of it than there are bytes from where it starts
    few_run : {s : State} {xs : List Step} → s.at.0 ≤ length t → Run t f m s xs → s.at.0 + length (gather g xs) ≤ length t
    few_run {s} l (Run.last {x = x} e o) = rw (gather_one g x) (run_paid s l e o)
    few_run {s} l (Run.more {x = x} {xs = xs} e o r) =
        let later = step_later t f m s (ap (onward s) (sym e) ∙ o) in
        let here = run_paid s l e o in
        let rest = few_run later.inside r in
        rw gather_more (omega (arith, length-append (g x) (gather g xs)))

    -- and a reading no more than the text has bytes
    few : length (gather g (reading t f m)) ≤ length t
    few = omega (arith, few_run (omega arith) (reading_run t f m))

  -- a reading has no more pieces than the text has bytes
  pub few_pieces : length (pieces t f m) ≤ length t
  unfolding pieces
  few_pieces = few pieces_of pieces_paid

  -- nor more errors
  pub few_errors : length (errors t f m) ≤ length t
  few_errors = omega (arith, errors_length t f m, few faults_of faults_paid)
