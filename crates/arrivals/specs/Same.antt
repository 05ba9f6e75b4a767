-- The numbers give back the state, and a finish of parts that are kept is the call on the joined text, with the same lists. Rests on Calls and `uploads`.
use Rattle.std.specs.Prelude.{ℕ, ◌≤◌, ◌≡◌, refl, Bool, true, false, List, eqb, length}
use Rattle.std.proofs.Common.{sym, ◌∙◌, ap, arith, le-ltb}
use Rattle.utf8.specs.Choice.{pick, either}
use Rattle.reading.specs.Answers.{frame_for, mode_for, answer_of}
use Rattle.reading.specs.Lists.{places, lines}
use Rattle.reading.specs.Written.{over, pairs}
use Rattle.reading.specs.declared.Answer.{Answer}
use Rattle.reading.specs.declared.Request.{Request}
use Rattle.reading.specs.declared.Rooms.{Rooms}
use Rattle.words.specs.Calls.{is_yes, rooms_in, pieces_in, errors_in, answer_words, is_short, Exported}
use Rattle.uploads.specs.Parts.{held}
use Rattle.uploads.specs.Finishes.{taken, finish_answer}
use Rattle.uploads.specs.Keeping.{Kept}
use Rattle.uploads.proofs.FinishLaws.{same_text, same_exit}
use Rattle.uploads.proofs.Cutting.{one_call}
use Rattle.uploads.specs.declared.Upload.{Upload}
use Rattle.arrivals.specs.Calls.{state_of, state_words, is_bare, lacks, Closed}

-- THE NUMBERS GIVE BACK THE STATE
pub state_back : (u : Upload) (k : List ℕ) → state_of (over (state_words u) k) ≡ u
unfolding state_of state_words over is_yes pick
state_back u k = ap (λ (x : Bool). record { count = u.count; valid = u.valid; over = x }) (same u.over)
  where
    same : (x : Bool) → pick (eqb (pick x 1 0) 0) false true ≡ x
    same true = refl
    same false = refl

-- a number of 0 is the answer's
done : (c : Bool) (n : ℕ) → pick c 255 n ≡ 0 → n ≡ 0
unfolding pick
done true n z = absurd (omega arith)
done false n z = z

-- A FINISH OF PARTS THAT ARE KEPT, with room for the state and the answer
bare : (k : List ℕ) → 3 ≤ length k → is_bare k ≡ false
unfolding is_bare
bare k room = le-ltb (length k) 3 room

module _ {j : List ℕ} (k b : List ℕ) (kept : Kept j (held (state_of k) b)) (room : 3 ≤ length k) (s : List ℕ) (q : Request) where
  pub same_call : {ps ps' es es' ls ls' ns ns' out out' : List ℕ} {r : ℕ} →
      Closed k b s q ps ps' es es' ls ls' ns ns' out out' r → Exported j s q ps ps' es es' ls ls' ns ns' out out' r
  same_call {ps} {ps'} {es} {es'} {ls} {ls'} {ns} {ns'} {out} {out'} {r} x = record {
    number = x.number ∙ short (λ c. pick c 255 (finish_answer (state_of k) b s q rooms).number) ∙ ap (λ (a : Answer). pick (is_short out) 255 a.number) answer;
    answer = x.answer ∙ short (λ c. pick c out (over (answer_words (finish_answer (state_of k) b s q rooms)) out)) ∙ ap (λ (a : Answer). pick (is_short out) out (over (answer_words a) out)) answer;
    pieces = x.pieces ∙ same_exit r ps (read (λ t. pieces_in t (frame_for t s q) (mode_for q)));
    errors = x.errors ∙ same_exit r es (read (λ t. errors_in t (frame_for t s q) (mode_for q)));
    places = x.places ∙ same_exit r ls (read (λ t. pairs (places t (frame_for t s q) (mode_for q))));
    lines = x.lines ∙ same_exit r ns (read (λ t. pairs (lines t (frame_for t s q) (mode_for q))));
  }
    where
      rooms : Rooms
      rooms = rooms_in ps es ls ns

      answer : finish_answer (state_of k) b s q rooms ≡ answer_of j s q rooms
      answer = one_call kept s q rooms

      same : (c d : Bool) → d ≡ false → either c d ≡ c
      same true d e = refl
      same false d e = e

      short : {A : Type 0} (f : Bool → A) → f (lacks out k) ≡ f (is_short out)
      short f = ap f (same (is_short out) (is_bare k) (bare k room))

      read : {A : Type 0} (f : List ℕ → A) → r ≡ 0 → f (taken (state_of k) b) ≡ f j
      read f z = ap f (same_text j (state_of k) b s q rooms kept (ap (λ (a : Answer). a.number) (sym answer) ∙ done (lacks out k) _ (sym x.number ∙ z)))
