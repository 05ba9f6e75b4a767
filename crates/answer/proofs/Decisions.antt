-- What a decision is made from: a refusal's answer, or a text that is read. Rests on Answers and AnswerLaws.
use Rattle.std.specs.Prelude.{ℕ, ◌≡◌, ◌≤◌, ◌<◌, refl, Bool, true, false, not, List, length, eqb, leb, ltb, Option, Some, None, Result, Ok, Err, MatchOption, OkIff, IsErrAnd, is_ok}
use Rattle.std.specs.Result.{result_ok, result_unwrap_or}
use mathlib.Core.Path.{ap, sym, ◌∙◌, subst}
use mathlib.Core.Bool.{true≢false}
use native.Mathlib.Omega.{arith}
use borrow.Author.Tests.{eq-eqb, ne_eqb, ltb-false, le-ltb, le-leb, lt-leb}
use Rattle.utf8.specs.Choice.{pick, either}
use Rattle.utf8.specs.Chars.{chars_from}
use Rattle.utf8.specs.declared.Checked.{Checked}
use Rattle.frame.specs.Modes.{mode_number, Decodes}
use Rattle.frame.specs.declared.Mode.{Mode}
use Rattle.frame.specs.declared.UnknownMode.{UnknownMode}
use Rattle.reading.specs.Answers.{answered, no_counts, lacks_newline, mode_of}
use Rattle.laws.specs.Deciding.{refused_as, early_number, late_answer, early_short}
use Rattle.laws.specs.AnswerLaws.{not_long}
use Rattle.answer.specs.Refusals.{number_of, place_of}
use Rattle.answer.specs.Decisions.{Admitted, Late, Opened, CountedBy, Decided}
use Rattle.answer.specs.DecisionLaws.{never_zero}
use Rattle.answer.specs.Asking.{freshly, valid_by, open_asked, OpenedBy, DecidedBy}
use Rattle.answer.specs.AskedLaws.{fresh_open, fresh_answer, asked_refused, asked_by_counts}
use Rattle.reading.specs.declared.Request.{Request}
use Rattle.reading.specs.declared.Counts.{Counts}
use Rattle.reading.specs.declared.Rooms.{Rooms}
use Rattle.reading.specs.declared.Answer.{Answer}
use Rattle.answer.specs.declared.Asked.{Asked}
use Rattle.answer.specs.declared.Decision.{Decision}
use Rattle.answer.specs.declared.Readable.{Readable}
use Rattle.answer.specs.declared.Refusal.{Refusal}

-- what `?` hands on
pub residual : {A : Type 0} {e : Refusal} (r : Result A Refusal) → IsErrAnd r (λ x. x ≡ e) → r ≡ Err e
residual (Ok x) k = absurd k
residual (Err x) k = ap Err k

-- what a number says of a mode
pub some_mode : {n : ℕ} (m : Mode) → mode_number m ≡ n → ltb 2 n ≡ false
some_mode {n} Mode.Format x = le-ltb 2 n (omega (arith, x))
some_mode {n} Mode.InlineAsm x = le-ltb 2 n (omega (arith, x))
some_mode {n} Mode.Diagnostic x = le-ltb 2 n (omega (arith, x))

pub mode_is : (n : ℕ) (r : Result Mode UnknownMode) → Decodes n r → result_unwrap_or r Mode.Diagnostic ≡ mode_of n
unfolding mode_of pick
mode_is n (Ok Mode.Format) x = rw (← x) refl
mode_is n (Ok Mode.InlineAsm) x = rw (← x) refl
mode_is n (Ok Mode.Diagnostic) x = rw (← x) refl
mode_is n (Err e) x = rw (ne_eqb n 0 (λ z. omega (arith, z, x.1)), ne_eqb n 1 (λ z. omega (arith, z, x.1))) refl

-- and whether a style may be none
pub unstyled : (given : Bool) → not given ≡ pick given false true
unfolding pick
unstyled true = refl
unstyled false = refl

-- and of a count of hashes
module _ {E : Type 0} (h : ℕ) where
  pub styled : (r : Result ℕ E) → OkIff r (h < 256) h → is_ok r ≡ leb h 255
  styled (Ok x) k = sym (le-leb h 255 (omega (arith, k.0)))
  styled (Err e) k = sym (lt-leb h 255 (not_le k))
    where
      not_le : (h < 256 → ⊥) → 255 < h
      not_le k = omega (arith, k)

  pub style_is : (r : Result ℕ E) → OkIff r (h < 256) h → result_ok r ≡ pick (leb h 255) (Some h) None
  unfolding pick
  style_is (Ok x) k = ap Some k.1 ∙ rw (sym (styled (Ok x) k)) refl
  style_is (Err e) k = rw (sym (styled (Err e) k)) refl

-- what is answered where nothing is refused yet
abbrev none : Answer
none = answered 0 0 no_counts 0 0

module _ (t : List ℕ) (c : Checked) (s : List ℕ) (q : Request) where
  -- a refusal
  pub refuses : {e : Refusal} → late_answer c.valid t q none ≡ refused_as (number_of e) (place_of e) → Late t c s q (Err e)
  refuses g = record { answer = sym g; readable = tt }

  -- a text that is not refused is admitted
  pub admits : {x : Readable} → Admitted t c.chars s q x → late_answer c.valid t q none ≡ none → Late t c s q (Ok x)
  admits x g = record { answer = sym g; readable = x }

either_right : (x y : Bool) → either x y ≡ false → y ≡ false
either_right true y e = absurd (true≢false e)
either_right false y e = e

-- without an early refusal the answer is the late one
open_late : (t s : List ℕ) (a : Asked) → a.unfit ≡ false → early_number a.over t s a.request ≡ 0 → open_asked a t s ≡ late_answer (valid_by a t) t a.request none
unfolding open_asked pick
open_late t s a fit e = rw (fit, eq-eqb _ 0 e)

-- a text that is not refused by 4 is UTF-8 to its end
passes_4 : (broken lacks : Bool) (at : ℕ) → (pick broken (refused_as 4 at) (pick lacks (refused_as 5 0) none)).number ≡ 0 → broken ≡ false
unfolding pick
passes_4 true lacks at e = absurd (omega arith)
passes_4 false lacks at e = refl

-- lists with room: all that is counted is said
pub roomy : {n : ℕ} (c : Counts) (w v : ℕ) → 0 ≡ n → answered 0 0 c w v ≡ answered n 0 c (pick (eqb n 0) w 0) (pick (eqb n 0) v 0)
unfolding pick
roomy c w v z = rw (← z) refl

-- a list without room: what is counted is said, and nothing else
pub roomless : (e : Refusal) {n : ℕ} (c : Counts) (w v : ℕ) → refused_as (number_of e) (place_of e) ≡ refused_as n 0 →
    answered (number_of e) (place_of e) c 0 0 ≡ answered n 0 c (pick (eqb n 0) w 0) (pick (eqb n 0) v 0)
unfolding pick
roomless e {n} c w v k =
    rw (ne_eqb n 0 (λ z. never_zero e (ap (λ (y : Answer). y.number) k ∙ z)))
    (ap (λ (y : Answer). answered y.number y.place c 0 0) k)

module _ (t s : List ℕ) (a : Asked) where
  -- a state that does not fit
  pub unfit_refuses : a.unfit ≡ true → OpenedBy t s a (Err Refusal.Unfit)
  unfolding open_asked pick
  unfit_refuses u = record { answer = sym (rw u); readable = tt; short = tt }

  module _ (fit : a.unfit ≡ false) where
    -- an early refusal
    pub early_refuses : {e : Refusal} → refused_as (number_of e) (place_of e) ≡ refused_as (early_number a.over t s a.request) 0 → OpenedBy t s a (Err e)
    unfolding open_asked pick
    early_refuses {e} k =
        let some = ne_eqb (early_number a.over t s a.request) 0 (λ z. never_zero e (ap (λ (y : Answer). y.number) k ∙ z)) in
        record { answer = k ∙ sym (rw (fit, some) refl); readable = tt; short = tt }

    -- without one it is as the check says
    module _ (c : Checked) (e : early_number a.over t s a.request ≡ 0) (v : c.valid ≡ valid_by a t) (n : length t ≤ c.valid → c.chars ≡ length (chars_from t 0)) where
      answers : {r : Answer} → r ≡ late_answer c.valid t a.request none → r ≡ open_asked a t s
      answers k = k ∙ ap (λ (k : ℕ). late_answer k t a.request none) v ∙ sym (open_late t s a fit e)

      pub late_opens : (r : Result Readable Refusal) → Late t c s a.request r → OpenedBy t s a r
      unfolding pick late_answer
      late_opens (Err r) x = record { answer = answers x.answer; readable = tt; short = tt }
      late_opens (Ok r) x =
          record {
            answer = answers x.answer;
            readable = record { frame = x.readable.frame; mode = x.readable.mode; chars = x.readable.chars ∙ n whole };
            short = not_long t a.request.given s (either_right a.over _ (early_short a.over t s a.request e));
          }
        where
          whole : length t ≤ c.valid
          whole =
              let b = passes_4 (ltb c.valid (length t)) (lacks_newline t a.request.newline) c.valid (ap (λ (y : Answer). y.number) (sym x.answer)) in
              ltb-false c.valid (length t) b

  module _ (w : Rooms) where
    -- a refusal is the answer
    pub stays : {e : Refusal} {d : Decision} → OpenedBy t s a (Err e) → d.answer ≡ refused_as (number_of e) (place_of e) → d.done ≡ None → DecidedBy t s a w d
    stays {e} {d} x g o =
        let some : ¬ (d.answer.number ≡ 0) = λ z. never_zero e (ap (λ (y : Answer). y.number) (sym g) ∙ z) in
        record { answer = g ∙ asked_refused t s a x w; done = rw o some; short = λ z. absurd (some z) }

    -- a text that is read is decided by its counts
    pub counts : {y : Readable} {d : Decision} → OpenedBy t s a (Ok y) → CountedBy t y w d → DecidedBy t s a w d
    counts {y} {d} x k = record { answer = k.answer ∙ asked_by_counts t s a x w; done = go d.done k.done; short = λ _. x.short }
      where
        go : (o : Option Readable) → MatchOption o (¬ (d.answer.number ≡ 0)) (λ z. (d.answer.number ≡ 0) × (z ≡ y)) →
            MatchOption o (¬ (d.answer.number ≡ 0)) (λ z. (d.answer.number ≡ 0) × Admitted t (length (chars_from t 0)) s a.request z)
        go None h = h
        go (Some z) h = (h.0, rw h.1 x.readable)

module _ (t s : List ℕ) (q : Request) where
  pub fresh_opened : {r : Result Readable Refusal} {a : Asked} → a ≡ freshly q → OpenedBy t s a r → Opened t s q r
  fresh_opened {r} {a} e y =
      let x : OpenedBy t s (freshly q) r = subst (λ (k : Asked). OpenedBy t s k r) e y in
      record { answer = x.answer ∙ fresh_open t s q; readable = x.readable; short = x.short }

  pub fresh_decided : {d : Decision} (r : Rooms) {a : Asked} → a ≡ freshly q → DecidedBy t s a r d → Decided t s q r d
  fresh_decided {d} r {a} e y =
      let x : DecidedBy t s (freshly q) r d = subst (λ (k : Asked). DecidedBy t s k r d) e y in
      record { answer = x.answer ∙ fresh_answer t s q r; done = x.done }
