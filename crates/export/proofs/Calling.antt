-- A call: what is decided before the text is read, the lists that reading leaves, and the answer's list. Rests on Parts and answer's DecisionLaws.
use Prim.Native.Nat.{ℕ, ◌≤◌, ◌<◌}
use mathlib.Core.Path.{◌≡◌, ap, sym, ◌∙◌, subst}
use Rattle.std.specs.Prelude.{Ok, Err}
use mathlib.Core.List.{List}
use native.Mathlib.Omega.{arith}
use borrow.Author.Tests.{lt-ltb, le-ltb}
use lib.ListN.{length}
use Rattle.utf8.specs.Choice.{pick}
use Rattle.reading.specs.Lists.{places, lines}
use Rattle.reading.specs.Answers.{frame_for, mode_for}
use Rattle.laws.specs.Deciding.{refused_as}
use Rattle.answer.specs.Refusals.{number_of, place_of}
use Rattle.answer.specs.Decisions.{Decided}
use Rattle.answer.specs.DecisionLaws.{never_zero}
use Rattle.answer.specs.Asking.{freshly, OpenedBy}
use Rattle.answer.specs.AskedLaws.{fresh_answer, asked_refused, asked_by_counts}
use Rattle.answer.specs.declared.Asked.{Asked}
use Rattle.reading.specs.Written.{over, pairs}
use Rattle.reading.specs.declared.Request.{Request}
use Rattle.reading.specs.declared.Answer.{Answer}
use Rattle.answer.specs.declared.Decision.{Decision}
use Rattle.answer.specs.declared.Readable.{Readable}
use Rattle.answer.specs.declared.Refusal.{Refusal}
use Rattle.words.specs.Calls.{pieces_in, errors_in}
use Rattle.words.specs.Calls.{rooms_in, answer_words, is_short, wide, Exported, Counted}
use Rattle.export.specs.Parts.{ReadBy, Read}
use Rattle.export.proofs.Listing.{at_refused}

module _ (t s : List ℕ) (q : Asked) (ps es ls ns : List ℕ) where
  -- a call that is refused before its text is read leaves all lists
  pub read_refused : {e : Refusal} {a : Answer} → OpenedBy t s q (Err e) → a ≡ refused_as (number_of e) (place_of e) → Read t s q ps ps es es ls ls ns ns a
  read_refused {e} {a} x k =
      let n = a.number in
      let f = frame_for t s q.request in
      let m = mode_for q.request in
      let some : n ≡ 0 → ⊥ = λ z. never_zero e (ap (λ (y : Answer). y.number) (sym k) ∙ z) in
      record {
        answer = k ∙ asked_refused t s q x (rooms_in ps es ls ns);
        lists =
            record {
              pieces = at_refused n (pieces_in t f m) ps some;
              errors = at_refused n (errors_in t f m) es some;
              places = at_refused n (pairs (places t f m)) ls some;
              lines = at_refused n (pairs (lines t f m)) ns some;
            };
      }

  -- any other is what reading its text by the frame and the mode at hand comes to
  pub read_on : {r : Readable} {ps' es' ls' ns' : List ℕ} {a : Answer} → OpenedBy t s q (Ok r) →
      ReadBy t r.frame r.mode ps ps' es es' ls ls' ns ns' a → Read t s q ps ps' es es' ls ls' ns ns' a
  read_on x y =
      record {
        answer = y.answer ∙ asked_by_counts t s q x (rooms_in ps es ls ns);
        lists = rw (x.readable.frame, x.readable.mode) at y.lists;
      }

module _ (t s : List ℕ) (q : Request) (ps es ls ns : List ℕ) where
  module _ (out : List ℕ) where
    -- without room for the answer nothing is done
    pub short_call : length out < 8 → Exported t s q ps ps es es ls ls ns ns out out 255
    unfolding is_short pick
    short_call h =
        let some : ◌≡◌ {A = ℕ} 255 0 → ⊥ = λ z. omega arith in
        record {
          number = rw (lt-ltb _ _ h);
          answer = rw (lt-ltb _ _ h);
          pieces = at_refused 255 (pieces_in t (frame_for t s q) (mode_for q)) ps some;
          errors = at_refused 255 (errors_in t (frame_for t s q) (mode_for q)) es some;
          places = at_refused 255 (pairs (places t (frame_for t s q) (mode_for q))) ls some;
          lines = at_refused 255 (pairs (lines t (frame_for t s q) (mode_for q))) ns some;
        }

    -- with room the answer is written, and the lists are as reading leaves them
    pub whole_call : {ps' es' ls' ns' out' : List ℕ} {a : Answer} {x : Asked} → 8 ≤ length out → x ≡ freshly q → Read t s x ps ps' es es' ls ls' ns ns' a →
        out' ≡ over (answer_words a) out → Exported t s q ps ps' es es' ls ls' ns ns' out out' a.number
    unfolding is_short pick
    whole_call {ps'} {es'} {ls'} {ns'} {a = a} h new y e =
        let x : Read t s (freshly q) ps ps' es es' ls ls' ns ns' a = subst (λ (k : Asked). Read t s k ps ps' es es' ls ls' ns ns' a) new y in
        let answer = x.answer ∙ fresh_answer t s q (rooms_in ps es ls ns) in
        record {
          number = rw (le-ltb _ _ h) (ap (λ (a : Answer). a.number) answer);
          answer = rw (le-ltb _ _ h) (e ∙ ap (λ (a : Answer). over (answer_words a) out) answer);
          pieces = x.lists.pieces;
          errors = x.lists.errors;
          places = x.lists.places;
          lines = x.lists.lines;
        }

module _ (t s : List ℕ) (q : Request) (out : List ℕ) where
  -- and so it is with a count
  pub short_count : length out < 8 → Counted t s q out out 255
  unfolding is_short pick
  short_count h = record { number = rw (lt-ltb _ _ h); answer = rw (lt-ltb _ _ h) }

  pub whole_count : {out' : List ℕ} {d : Decision} → 8 ≤ length out → Decided t s q wide d → out' ≡ over (answer_words d.answer) out →
      Counted t s q out out' d.answer.number
  unfolding is_short pick
  whole_count h x e =
      record {
        number = rw (le-ltb _ _ h) (ap (λ (a : Answer). a.number) x.answer);
        answer = rw (le-ltb _ _ h) (e ∙ ap (λ (a : Answer). over (answer_words a) out) x.answer);
      }
