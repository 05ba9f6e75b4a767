-- What a decision on a text that may be known says, and that of a fresh text it is the answer to the call. Rests on Asking and the laws of the answer.
use Rattle.std.specs.Prelude.{ℕ, ◌≡◌, refl, Bool, true, false, List, eqb, Result, Ok, Err}
use Rattle.std.proofs.Math.Path.{ap, sym}
use Rattle.std.proofs.Common.{◌∙◌, eq-eqb, ne_eqb}
use Rattle.std.proofs.lemmas.Bool.{eqb-false}
use Rattle.utf8.specs.Choice.{pick}
use Rattle.frame.specs.Bounds.{Small}
use Rattle.reading.specs.Answers.{frame_for, mode_for, answer_of}
use Rattle.reading.specs.Lists.{counts_of}
use Rattle.reading.specs.declared.Answer.{Answer}
use Rattle.reading.specs.declared.Request.{Request}
use Rattle.reading.specs.declared.Rooms.{Rooms}
use Rattle.laws.specs.Deciding.{refused_as, counted_by, counted_answer, open_answer, open_by_lem}
use Rattle.laws.specs.AnswerLaws.{small_frame, room_enough, Done, answer_open}
use Rattle.answer.specs.Asking.{freshly, valid_by, open_asked, asked_answer, OpenedBy, DecidedBy}
use Rattle.answer.specs.DecisionLaws.{never_zero}
use Rattle.answer.specs.Refusals.{number_of, place_of, answer_in}
use Rattle.answer.specs.declared.Asked.{Asked}
use Rattle.answer.specs.declared.Decision.{Decision}
use Rattle.answer.specs.declared.Readable.{Readable}
use Rattle.answer.specs.declared.Refusal.{Refusal}

-- OF A FRESH TEXT the answer is the call's
pub fresh_open : (t s : List ℕ) (q : Request) → open_asked (freshly q) t s ≡ open_answer t s q
unfolding open_asked valid_by pick
fresh_open t s q = sym (open_by_lem t s q)

pub fresh_answer : (t s : List ℕ) (q : Request) (r : Rooms) → asked_answer (freshly q) t s r ≡ answer_of t s q r
unfolding asked_answer
fresh_answer t s q r = ap (λ (o : Answer). pick (eqb o.number 0) (counted_answer t s q r) o) (fresh_open t s q) ∙ sym (answer_open t s q r)

-- an answer of 0 is that of the counts
settled : (o x : Answer) → (pick (eqb o.number 0) x o).number ≡ 0 → pick (eqb o.number 0) x o ≡ x
unfolding pick
settled o x z = go (eqb o.number 0) refl z
  where
    go : (b : Bool) → eqb o.number 0 ≡ b → (pick b x o).number ≡ 0 → pick b x o ≡ x
    go true e z = refl
    go false e z = absurd (eqb-false o.number 0 e z)

-- a decision of 0 says that the text is small, that each list has room, and what is counted
module _ (t s : List ℕ) (a : Asked) (r : Rooms) {d : Decision} (x : DecidedBy t s a r d) (zero : d.answer.number ≡ 0) where
  pub asked_counted : d.answer ≡ counted_answer t s a.request r
  unfolding asked_answer
  asked_counted = x.answer ∙ settled (open_asked a t s) (counted_answer t s a.request r) (ap (λ (y : Answer). y.number) (sym x.answer) ∙ zero)

  pub asked_counts : d.answer.counts ≡ counts_of t (frame_for t s a.request) (mode_for a.request)
  unfolding counted_answer
  asked_counts = ap (λ (y : Answer). y.counts) asked_counted

  pub asked_done : Done t s a.request r
  unfolding counted_answer counts_of
  asked_done =
      let room = room_enough (counts_of t (frame_for t s a.request) (mode_for a.request)) r (ap (λ (y : Answer). y.number) (sym asked_counted) ∙ zero) in
      record {
        short = x.short zero;
        small = small_frame t s a.request (x.short zero);
        pieces = room.pieces;
        errors = room.errors;
        places = room.places;
        lines = room.lines;
      }

-- what is decided before the text is read
module _ (t s : List ℕ) (a : Asked) where
  number_is : {r : Result Readable Refusal} → OpenedBy t s a r → (answer_in r).number ≡ (open_asked a t s).number
  number_is x = ap (λ (y : Answer). y.number) x.answer

  -- a refusal is the answer, whatever the lists have room for
  pub asked_refused : {e : Refusal} → OpenedBy t s a (Err e) → (r : Rooms) → refused_as (number_of e) (place_of e) ≡ asked_answer a t s r
  unfolding asked_answer pick
  asked_refused {e} x r =
      x.answer ∙ sym (rw (ne_eqb (open_asked a t s).number 0 (λ z. never_zero e (number_is x ∙ z))) refl)

  module _ {y : Readable} (x : OpenedBy t s a (Ok y)) where
    -- without one the frame is small
    pub asked_small : Small t y.frame
    asked_small = rw x.readable.frame (small_frame t s a.request x.short)

    -- and the answer is that of the counts by the frame and the mode at hand
    pub asked_by_counts : (r : Rooms) → counted_by t y.frame y.mode r ≡ asked_answer a t s r
    unfolding asked_answer counted_answer pick
    asked_by_counts r =
        rw (x.readable.frame, x.readable.mode) (sym (rw (eq-eqb (open_asked a t s).number 0 (ap (λ (z : Answer). z.number) (sym x.answer))) refl))
