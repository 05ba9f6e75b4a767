-- The lists of a finish, with room for the answer and the state or without. Rests on Calls, and on what `export` reads.
use Prim.Native.Nat.{ℕ, ◌≤◌, ◌<◌}
use mathlib.Core.Path.{◌≡◌, refl, ap, subst, ◌∙◌}
use mathlib.Core.Bool.{true}
use mathlib.Core.List.{List}
use borrow.Author.Tests.{lt-ltb, le-ltb}
use lib.ListN.{length}
use Rattle.utf8.specs.Choice.{pick}
use Rattle.utf8.specs.ChoiceLaws.{either_true}
use Rattle.reading.specs.Exits.{at_exit}
use Rattle.reading.specs.Written.{over}
use Rattle.reading.specs.declared.Answer.{Answer}
use Rattle.reading.specs.declared.Request.{Request}
use Rattle.answer.specs.declared.Asked.{Asked}
use Rattle.words.specs.Calls.{rooms_in, answer_words, is_short}
use Rattle.export.specs.Parts.{Read}
use Rattle.uploads.specs.Finishes.{taken, finish_answer}
use Rattle.uploads.specs.declared.Upload.{Upload}
use Rattle.upload.specs.Asks.{asked_of}
use Rattle.upload.specs.AskLaws.{asks_finish}
use Rattle.arrivals.specs.Calls.{state_of, is_bare, lacks, Closed}

-- a refused call leaves a list
left : {A : Type 0} (new old : List A) → old ≡ at_exit 255 new old
unfolding at_exit pick
left new old = refl

module _ (k b s : List ℕ) (q : Request) (ps es ls ns out : List ℕ) where
  -- without room nothing is done
  pub short : lacks out k ≡ true → Closed k b s q ps ps es es ls ls ns ns out out 255
  unfolding pick
  short h = record { number = rw h; answer = rw h; pieces = left _ ps; errors = left _ es; places = left _ ls; lines = left _ ns }

  pub no_answer : length out < 8 → Closed k b s q ps ps es es ls ls ns ns out out 255
  unfolding is_short
  no_answer h = short (rw (lt-ltb _ _ h) refl)

  pub no_state : length k < 3 → Closed k b s q ps ps es es ls ls ns ns out out 255
  unfolding is_bare
  no_state h = short (rw (lt-ltb _ _ h) (either_true (is_short out)))

  -- with room it is what reading the bytes that were taken comes to
  pub whole : 8 ≤ length out → 3 ≤ length k → {u : Upload} → u ≡ state_of k → {t : List ℕ} → t ≡ taken u b → {x : Asked} → x ≡ asked_of u b q →
      {ps' es' ls' ns' out' : List ℕ} {a : Answer} → Read t s x ps ps' es es' ls ls' ns ns' a → out' ≡ over (answer_words a) out →
      Closed k b s q ps ps' es es' ls ls' ns ns' out out' a.number
  unfolding is_short is_bare pick
  whole h g {u} su {t} st {x} sx {ps'} {es'} {ls'} {ns'} {out'} {a} y e =
      let y1 : Read t s (asked_of u b q) ps ps' es es' ls ls' ns ns' a = subst (λ (z : Asked). Read t s z ps ps' es es' ls ls' ns ns' a) sx y in
      let y2 : Read (taken u b) s (asked_of u b q) ps ps' es es' ls ls' ns ns' a = subst (λ (z : List ℕ). Read z s (asked_of u b q) ps ps' es es' ls ls' ns ns' a) st y1 in
      let r : Read (taken (state_of k) b) s (asked_of (state_of k) b q) ps ps' es es' ls ls' ns ns' a = subst (λ (v : Upload). Read (taken v b) s (asked_of v b q) ps ps' es es' ls ls' ns ns' a) su y2 in
      let answer : a ≡ finish_answer (state_of k) b s q (rooms_in ps es ls ns) = r.answer ∙ asks_finish (state_of k) b s q (rooms_in ps es ls ns) in
      record {
        number = rw (le-ltb _ _ h, le-ltb _ _ g) (ap (λ (z : Answer). z.number) answer);
        answer = rw (le-ltb _ _ h, le-ltb _ _ g) (e ∙ ap (λ (z : Answer). over (answer_words z) out) answer);
        pieces = r.lists.pieces;
        errors = r.lists.errors;
        places = r.lists.places;
        lines = r.lists.lines;
      }
