-- The refusals of a verdict, by what is decided before the text is read. Rests on Verdicts and on the laws of the answer.
use Prim.Native.Nat.{ℕ}
use mathlib.Core.Path.{◌≡◌, refl, sym, ◌∙◌}
use mathlib.Core.Logic.{◌⊎◌, inl, inr}
use mathlib.Core.Bool.{Bool, true, false, not, true≢false}
use mathlib.Core.List.{List, [], ◌∷◌}
use borrow.Author.Tests.{ne_eqb, lt-ltb, le-ltb, leb-true, leb-false}
use lib.Dec.{eqb, leb, ltb}
use Rattle.utf8.specs.Choice.{pick}
use Rattle.reading.specs.Answers.{frame_for, refusal, first_of}
use Rattle.reading.specs.declared.Request.{Request}
use Rattle.laws.specs.Deciding as deciding
use Rattle.answer.specs.Decisions.{Opened}
use Rattle.answer.specs.DecisionLaws.{never_zero}
use Rattle.answer.specs.Refusals.{number_of, place_of, answer_in}
use Rattle.answer.specs.declared.Readable.{Readable}
use Rattle.answer.specs.declared.Refusal.{Refusal}
use Rattle.std.specs.Prelude.{Result, Ok, Err}
use Rattle.membership.specs.Verdicts.{text_verdict, refused_as, judged_of}
use Rattle.membership.specs.declared.Verdict.{Verdict}
use Rattle.member.specs.Meetings.{is_other}

-- the order of the tests: where 17 is not the first, it is none
in_order : (over other styled long broken lacks : Bool) (prefix : ℕ) (v : Verdict) → (over ≡ true) ⊎ (other ≡ false) →
    let n =
    first_of
    (refusal 1 over ∷ refusal 17 other ∷ refusal 2 (not styled) ∷ refusal 3 long ∷ refusal 4 broken ∷ refusal 5 lacks ∷ [])
    in
    let a =
    pick over (deciding.refused_as 1 0)
    (pick styled
    (pick long (deciding.refused_as 3 0)
    (pick broken (deciding.refused_as 4 prefix) (pick lacks (deciding.refused_as 5 0) (deciding.refused_as 0 0))))
    (deciding.refused_as 2 0))
    in
    pick (eqb n 0) v (Verdict.Refused n (pick (eqb n 4) prefix 0)) ≡ pick (eqb a.number 0) v (Verdict.Refused a.number a.place)
unfolding pick first_of
in_order true other styled long broken lacks prefix v h = refl
in_order false true styled long broken lacks prefix v (inl e) = absurd (true≢false (sym e))
in_order false true styled long broken lacks prefix v (inr e) = absurd (true≢false e)
in_order false false false long broken lacks prefix v h = refl
in_order false false true true broken lacks prefix v h = refl
in_order false false true false true lacks prefix v h = refl
in_order false false true false false true prefix v h = refl
in_order false false true false false false prefix v h = refl

-- a mode that is Format, or none
abbrev Allowed : ℕ → Type 0
Allowed mode = (ltb 2 mode ≡ true) ⊎ (not (eqb mode 0) ≡ false)

pub not_other : (mode : ℕ) → is_other mode ≡ false → Allowed mode
unfolding is_other pick
not_other mode h = go (eqb mode 0) refl h
  where
    go : (b : Bool) → eqb mode 0 ≡ b → pick b false (leb mode 2) ≡ false → Allowed mode
    go true e h = inr (rw e)
    go false e h = inl (lt-ltb 2 mode (leb-false mode 2 h))

module _ (t s : List ℕ) (q : Request) where
  -- mode 1 or 2
  pub other_mode : is_other q.mode ≡ true → Verdict.Refused 17 0 ≡ judged_of t s q
  unfolding judged_of refused_as first_of is_other pick
  other_mode h = go (eqb q.mode 0) refl h
    where
      go : (b : Bool) → eqb q.mode 0 ≡ b → pick b false (leb q.mode 2) ≡ true → Verdict.Refused 17 0 ≡ judged_of t s q
      go true e h = absurd (true≢false (sym h))
      go false e h = rw (e, le-ltb 2 q.mode (leb-true q.mode 2 h))

  module _ (mode : Allowed q.mode) where
    decided : (r : Result Readable Refusal) → Opened t s q r →
        judged_of t s q ≡ pick (eqb (answer_in r).number 0) (text_verdict t (frame_for t s q)) (Verdict.Refused (answer_in r).number (answer_in r).place)
    unfolding judged_of refused_as deciding.open_answer
    decided r x = rw x.answer (in_order _ _ _ _ _ _ _ _ mode)

    -- a refusal
    pub is_refused : {e : Refusal} → Opened t s q (Err e) → Verdict.Refused (number_of e) (place_of e) ≡ judged_of t s q
    unfolding pick
    is_refused {e} x = sym (decided (Err e) x ∙ rw (ne_eqb (number_of e) 0 (never_zero e)))

    -- none
    pub is_open : {y : Readable} → Opened t s q (Ok y) → text_verdict t y.frame ≡ judged_of t s q
    unfolding pick
    is_open {y} x = rw x.readable.frame (sym (decided (Ok y) x))
