-- THE PAGE OF TEXTS IN PARTS: however a text is cut, its parts and the finish come to what one call on the joined text comes to; and what the calls do
-- for any state and buffer leaves no choice. The definitions are Parts, Finishes and Keeping; the work is in PartLaws and FinishLaws.
use Rattle.std.specs.Prelude.{ℕ, ◌≤◌, ◌≡◌, true, List, [], ◌∷◌, ◌++◌, length}
use Rattle.std.proofs.Common.{sym, ◌∙◌, ap, subst, append_assoc, append-nil}
use Rattle.utf8.specs.Choice.{pick}
use Rattle.reading.specs.Answers.{frame_for, mode_for, answer_of}
use Rattle.reading.specs.Calls.{rooms_of, Read}
use Rattle.reading.specs.Exits.{at_exit}
use Rattle.reading.specs.Lists.{pieces, errors, places, lines}
use Rattle.reading.specs.Written.{pairs}
use Rattle.reading.specs.declared.Answer.{Answer}
use Rattle.reading.specs.declared.ErrorRecord.{ErrorRecord}
use Rattle.reading.specs.declared.Piece.{Piece}
use Rattle.reading.specs.declared.Request.{Request}
use Rattle.reading.specs.declared.Rooms.{Rooms}
use Rattle.laws.specs.Deciding.{refused_as}
use Rattle.uploads.specs.declared.Upload.{Upload}
use Rattle.uploads.specs.declared.Taken.{Taken}
use Rattle.uploads.specs.Parts.{nothing, is_unfit, part_number, part_state, part_buffer, Part, Held, held, after, joined}
use Rattle.uploads.specs.Finishes.{taken, finish_answer, Finished}
use Rattle.uploads.specs.Keeping.{Kept}
use Rattle.uploads.proofs.PartLaws.{kept_none, kept_part}
use Rattle.uploads.proofs.FinishLaws.{same_answer, same_text, same_exit}

-- parts after others
kept_after : (j : List ℕ) (h : Held) (ps : List (List ℕ)) → Kept j h → Kept (j ++ joined ps) (after h ps)
unfolding after joined
kept_after j h [] k = subst (λ (x : List ℕ). Kept x h) (sym (append-nil j)) k
kept_after j h (p ∷ ps) k =
    let next = held (part_state h.state h.buffer p) (part_buffer h.state h.buffer p) in
    subst (λ (x : List ℕ). Kept x (after next ps)) (append_assoc j p (joined ps)) (kept_after (j ++ p) next ps (kept_part j p h.state h.buffer k))

-- "For every cutting, a part of no bytes among them": whatever the parts are, they are kept
pub every_cutting : (b : List ℕ) → 65535 ≤ length b → (ps : List (List ℕ)) → Kept (joined ps) (after (held nothing b) ps)
every_cutting b l ps = kept_after [] (held nothing b) ps (kept_none b l)

-- and none of them is refused
pub every_part : {j : List ℕ} {h : Held} → Kept j h → part_number h.state h.buffer ≡ 0
unfolding part_number pick
every_part k = rw k.fits

-- PARTS THAT ARE KEPT
module _ {j : List ℕ} {u : Upload} {b : List ℕ} (k : Kept j (held u b)) (s : List ℕ) (q : Request) where
  -- "the answer .. equal those of one call on the joined text"
  pub one_call : (r : Rooms) → finish_answer u b s q r ≡ answer_of j s q r
  one_call r = same_answer j u b s q r k

  -- "and all lists": a finish is a reading of the joined text
  pub same_lists : {ps ps' : List Piece} {es es' : List ErrorRecord} {ls ls' ns ns' : List ℕ} {r : Answer} →
      Finished u b s q ps ps' es es' ls ls' ns ns' r → Read j s q ps ps' es es' ls ls' ns ns' r
  same_lists {ps} {ps'} {es} {es'} {ls} {ls'} {ns} {ns'} {r} x = record {
    answer = answer;
    lists = record {
      pieces = x.lists.pieces ∙ same_exit r.number ps (read (λ t. pieces t (frame_for t s q) (mode_for q)));
      errors = x.lists.errors ∙ same_exit r.number es (read (λ t. errors t (frame_for t s q) (mode_for q)));
      places = x.lists.places ∙ same_exit r.number ls (read (λ t. pairs (places t (frame_for t s q) (mode_for q))));
      lines = x.lists.lines ∙ same_exit r.number ns (read (λ t. pairs (lines t (frame_for t s q) (mode_for q))));
    };
  }
    where
      answer : r ≡ answer_of j s q (rooms_of ps es ls ns)
      answer = x.answer ∙ one_call (rooms_of ps es ls ns)

      read : {A : Type 0} (f : List ℕ → A) → r.number ≡ 0 → f (taken u b) ≡ f j
      read f z = ap f (same_text j u b s q (rooms_of ps es ls ns) k (ap (λ (a : Answer). a.number) (sym answer) ∙ z))

-- THE REQUEST'S SENTENCE: "For every cutting, a part of no bytes among them, the answer and all lists equal those of one call on the joined text."
module _ (b : List ℕ) (l : 65535 ≤ length b) (parts : List (List ℕ)) (s : List ℕ) (q : Request) where
  pub cut_answer : (r : Rooms) →
      finish_answer (after (held nothing b) parts).state (after (held nothing b) parts).buffer s q r ≡ answer_of (joined parts) s q r
  cut_answer r = one_call (every_cutting b l parts) s q r

  pub cut_lists : {ps ps' : List Piece} {es es' : List ErrorRecord} {ls ls' ns ns' : List ℕ} {r : Answer} →
      Finished (after (held nothing b) parts).state (after (held nothing b) parts).buffer s q ps ps' es es' ls ls' ns ns' r →
      Read (joined parts) s q ps ps' es es' ls ls' ns ns' r
  cut_lists x = same_lists (every_cutting b l parts) s q x

-- REFUSAL 16 changes nothing: neither what is kept, nor the buffer, nor any list
module _ {u : Upload} {b : List ℕ} (unfit : is_unfit u b ≡ true) where
  pub part_refused : {b' p : List ℕ} {r : Taken} → Part u b b' p r → (r.number ≡ 16) × (r.state ≡ u) × (b' ≡ b)
  unfolding part_number part_state part_buffer pick
  part_refused x = (rw unfit at x.number, rw unfit at x.state, rw unfit at x.buffer)

  pub finish_refused : {s : List ℕ} {q : Request} {ps ps' : List Piece} {es es' : List ErrorRecord} {ls ls' ns ns' : List ℕ} {r : Answer} →
      Finished u b s q ps ps' es es' ls ls' ns ns' r → (r ≡ refused_as 16 0) × (ps' ≡ ps) × (es' ≡ es) × (ls' ≡ ls) × (ns' ≡ ns)
  unfolding finish_answer at_exit pick
  finish_refused {r = r} x =
      let a : r ≡ refused_as 16 0 = rw unfit at x.answer in
      (a, rw a at x.lists.pieces, rw a at x.lists.errors, rw a at x.lists.places, rw a at x.lists.lines)

-- NO FREEDOM: two results of the same part, or of the same finish, are equal, whatever the state and the buffer are
pub part_one : {u : Upload} {b a c p : List ℕ} {r k : Taken} → Part u b a p r → Part u b c p k → (r.number ≡ k.number) × (r.state ≡ k.state) × (a ≡ c)
part_one x y = (x.number ∙ sym y.number, x.state ∙ sym y.state, x.buffer ∙ sym y.buffer)

pub finish_one : {u : Upload} {b s : List ℕ} {q : Request} {ps a c : List Piece} {es d e : List ErrorRecord} {ls f g ns m n : List ℕ} {r k : Answer} →
    Finished u b s q ps a es d ls f ns m r → Finished u b s q ps c es e ls g ns n k → (r ≡ k) × (a ≡ c) × (d ≡ e) × (f ≡ g) × (m ≡ n)
finish_one {ps = ps} {es = es} {ls = ls} {ns = ns} {r = r} {k = k} x y = (
  same,
  to _ ps x.lists.pieces y.lists.pieces,
  to _ es x.lists.errors y.lists.errors,
  to _ ls x.lists.places y.lists.places,
  to _ ns x.lists.lines y.lists.lines,
)
  where
    same : r ≡ k
    same = x.answer ∙ sym y.answer

    to : {A : Type 0} {v w : List A} (new old : List A) → v ≡ at_exit r.number new old → w ≡ at_exit k.number new old → v ≡ w
    to new old v w = v ∙ ap (λ (z : Answer). at_exit z.number new old) same ∙ sym w
