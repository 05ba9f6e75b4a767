-- What is wrong in a list of slots: how many faults two lists have together, and which slot stands at a number.
-- Rests on the definition of `wrong`.
use Rattle.std.specs.Prelude.{ℕ, zero, suc, ◌+◌, ◌-◌, ◌≤◌, ◌<◌, ◌≡◌, refl, Bool, true, false, List, [], ◌∷◌, ◌++◌, length, drop, get_or}
use Rattle.std.proofs.Common.{◌∙◌, true≢false, add-sub_of_le, add-one, arith, length-append, get_or-append-add}
use Rattle.std.proofs.Math.ListN.{get_or-append, get_or-eq_default}
use Rattle.utf8.specs.Choice.{pick}
use Rattle.frame.specs.declared.TextPlace.{TextPlace}
use Rattle.placeholder.specs.declared.ArgumentFlaws.{ArgumentFlaws}
use Rattle.closing.specs.declared.recover.Gap.{Gap}
use Rattle.closing.specs.declared.recover.Recovery.{Recovery}
use Rattle.closing.specs.declared.whole.Closing.{Closing}
use Rattle.reading.specs.Faults.{is_clean, flaw_fault, gap_fault, hint_fault, argument_slots, missing_slots, closing_slots, step_slots, wrong}
use Rattle.reading.specs.declared.Fault.{Fault}
use Rattle.reading.specs.declared.Step.{Step}

-- a fault that is kept or left out before a list is so before a longer one
kept_++ : (b : Bool) (x : Fault) (p q ys : List Fault) → p ≡ q ++ ys → pick b p (x ∷ p) ≡ pick b q (x ∷ q) ++ ys
unfolding pick
kept_++ true x p q ys e = e
kept_++ false x p q ys e = rw e

-- what is wrong in two lists, one after the other
pub wrong_++ : (xs ys : List Fault) → wrong (xs ++ ys) ≡ wrong xs ++ wrong ys
unfolding wrong
wrong_++ [] ys = refl
wrong_++ (x ∷ xs) ys = kept_++ (is_clean x) x (wrong (xs ++ ys)) (wrong xs) (wrong ys) (wrong_++ xs ys)

-- how many faults two lists have together
pub count_++ : (xs ys : List Fault) → length (wrong (xs ++ ys)) ≡ length (wrong xs) + length (wrong ys)
count_++ xs ys = rw (wrong_++, length-append)

-- how many a fault and a list have
pub count_cons : (x : Fault) (xs : List Fault) → length (wrong (x ∷ xs)) ≡ length (wrong (x ∷ [])) + length (wrong xs)
count_cons x xs = count_++ (x ∷ []) xs

-- how many an argument has
pub argument_count : (a : ArgumentFlaws) →
    length (wrong (argument_slots a)) ≡
    length (wrong (flaw_fault a.place ∷ [])) + length (wrong (flaw_fault a.raw ∷ [])) + length (wrong (flaw_fault a.width ∷ [])) + length (wrong (flaw_fault a.precision ∷ []))
    + length (wrong (flaw_fault a.typetext ∷ []))
unfolding argument_slots
argument_count a =
    omega (
      arith,
      count_cons (flaw_fault a.place) (flaw_fault a.raw ∷ flaw_fault a.width ∷ flaw_fault a.precision ∷ flaw_fault a.typetext ∷ []),
      count_cons (flaw_fault a.raw) (flaw_fault a.width ∷ flaw_fault a.precision ∷ flaw_fault a.typetext ∷ []),
      count_cons (flaw_fault a.width) (flaw_fault a.precision ∷ flaw_fault a.typetext ∷ []),
      count_cons (flaw_fault a.precision) (flaw_fault a.typetext ∷ []),
    )

-- how many there are where a closing brace is missing
pub missing_count : (brace : TextPlace) (gap : Gap) (on : Recovery) →
    length (wrong (missing_slots brace gap on)) ≡
    length (wrong (gap_fault gap ∷ [])) + length (wrong (flaw_fault on.word ∷ [])) + length (wrong (argument_slots on.field)) + length (wrong (hint_fault brace on.hint ∷ []))
unfolding missing_slots
missing_count brace gap on =
    omega (
      arith,
      count_cons (gap_fault gap) (flaw_fault on.word ∷ (argument_slots on.field ++ (hint_fault brace on.hint ∷ []))),
      count_cons (flaw_fault on.word) (argument_slots on.field ++ (hint_fault brace on.hint ∷ [])),
      count_++ (argument_slots on.field) (hint_fault brace on.hint ∷ []),
    )

-- a slot past a first list stands in the second
pub get_d_past : (xs ys : List Fault) (k : ℕ) (d : Fault) → length xs ≤ k → get_or (xs ++ ys) k d ≡ get_or ys (k - length xs) d
get_d_past xs ys k d h = rw (← get_or-append-add xs ys (k - length xs) d, add-sub_of_le h)

-- past an argument's five slots there is none
pub argument_past : (a : ArgumentFlaws) (k : ℕ) → 5 ≤ k → get_or (argument_slots a) k Fault.Clean ≡ Fault.Clean
unfolding argument_slots
argument_past a k h = get_or-eq_default (argument_slots a) Fault.Clean h

module _ (brace : TextPlace) (gap : Gap) (on : Recovery) (k : ℕ) where
  -- where a closing brace is missing, the slots from 2 to 6 are the field's
  pub missing_field : 2 ≤ k → k < 7 → get_or (missing_slots brace gap on) k Fault.Clean ≡ get_or (argument_slots on.field) (k - 2) Fault.Clean
  unfolding argument_slots missing_slots
  missing_field low high =
      get_d_past (gap_fault gap ∷ flaw_fault on.word ∷ []) (argument_slots on.field ++ (hint_fault brace on.hint ∷ [])) k Fault.Clean low
      ∙ get_or-append (argument_slots on.field) (hint_fault brace on.hint ∷ []) Fault.Clean (k - 2) (omega arith)

  -- past the eighth there is none
  pub missing_past : 8 ≤ k → get_or (missing_slots brace gap on) k Fault.Clean ≡ Fault.Clean
  unfolding argument_slots missing_slots
  missing_past h = get_or-eq_default (missing_slots brace gap on) Fault.Clean h

-- a lone `}` has one slot
pub stop_past : (at : TextPlace) (k : ℕ) → 1 ≤ k → get_or (step_slots (Step.Stop at)) k Fault.Clean ≡ Fault.Clean
unfolding step_slots
stop_past at k h = get_or-eq_default (Fault.Unmatched at ∷ []) Fault.Clean h

module _ (flaws : ArgumentFlaws) (brace : TextPlace) (closing : Closing) (k : ℕ) where
  -- a placeholder's first five slots are its argument's
  pub placeholder_argument : k < 5 →
      get_or (argument_slots flaws ++ closing_slots brace closing) k Fault.Clean ≡ get_or (argument_slots flaws) k Fault.Clean
  unfolding argument_slots
  placeholder_argument h = get_or-append (argument_slots flaws) (closing_slots brace closing) Fault.Clean k h

  -- the others those of its end
  pub placeholder_closing : 5 ≤ k →
      get_or (argument_slots flaws ++ closing_slots brace closing) k Fault.Clean ≡ get_or (closing_slots brace closing) (k - 5) Fault.Clean
  unfolding argument_slots
  placeholder_closing h = get_d_past (argument_slots flaws) (closing_slots brace closing) k Fault.Clean h

-- a clean slot is passed
pub clean_slot : (xs : List Fault) (k : ℕ) → is_clean (get_or xs k Fault.Clean) ≡ true → wrong (drop k xs) ≡ wrong (drop (k + 1) xs)
unfolding wrong pick
clean_slot xs k e = rw add-one (go xs k e)
  where
    go : (xs : List Fault) (k : ℕ) → is_clean (get_or xs k Fault.Clean) ≡ true → wrong (drop k xs) ≡ wrong (drop (suc k) xs)
    go [] zero e = refl
    go [] (suc k) e = refl
    go (x ∷ xs) zero e = rw e
    go (x ∷ xs) (suc k) e = go xs k e

-- one that is not is a fault
pub wrong_slot : (xs : List Fault) (k : ℕ) → is_clean (get_or xs k Fault.Clean) ≡ false →
    wrong (drop k xs) ≡ get_or xs k Fault.Clean ∷ wrong (drop (k + 1) xs)
unfolding wrong pick
wrong_slot xs k e = rw add-one (go xs k e)
  where
    go : (xs : List Fault) (k : ℕ) → is_clean (get_or xs k Fault.Clean) ≡ false →
        wrong (drop k xs) ≡ get_or xs k Fault.Clean ∷ wrong (drop (suc k) xs)
    go [] k e = absurd (true≢false e)
    go (x ∷ xs) zero e = rw e
    go (x ∷ xs) (suc k) e = go xs k e

-- a step has at most thirteen slots
pub slots_few : (x : Step) → length (step_slots x) ≤ 13
unfolding step_slots argument_slots closing_slots missing_slots
slots_few Step.End = omega arith
slots_few (Step.Stop p) = omega arith
slots_few (Step.Literal r) = omega arith
slots_few (Step.Placeholder p) = go p.closing
  where
    go : (x : Closing) → length (argument_slots p.flaws ++ closing_slots p.argument.range.start x) ≤ 13
    go (Closing.Closed e) = omega arith
    go (Closing.Missing gap on) = omega arith

-- where nothing is wrong, nothing is from a slot on
pub clear_drop : (xs : List Fault) (k : ℕ) → wrong xs ≡ [] → wrong (drop k xs) ≡ []
unfolding wrong pick
clear_drop xs zero e = e
clear_drop [] (suc k) e = e
clear_drop (x ∷ xs) (suc k) e = clear_drop xs k (go (is_clean x) e)
  where
    go : (b : Bool) → pick b (wrong xs) (x ∷ wrong xs) ≡ [] → wrong xs ≡ []
    go true e = e
    go false e = cc

-- five clean slots
pub clean_five : (a : ArgumentFlaws) → is_clean (flaw_fault a.place) ≡ true → is_clean (flaw_fault a.raw) ≡ true →
    is_clean (flaw_fault a.width) ≡ true → is_clean (flaw_fault a.precision) ≡ true → is_clean (flaw_fault a.typetext) ≡ true →
    wrong (argument_slots a) ≡ []
unfolding wrong argument_slots pick
clean_five a p r w d t = rw (p, r, w, d, t)
