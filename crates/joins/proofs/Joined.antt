-- JOINED TEXTS: "two error-free texts of one mode and style, no snippets, joined within the length limit, read without error." The words'
-- definitions are Joins; the work is in Device. First of two texts and of more by the lists that the definitions give, then of calls and what their lists hold.
use Rattle.std.specs.Prelude.{◌≡◌, ◌≢◌, false, ℕ, ◌≤◌, ltb, length, take, Option}
use Rattle.std.proofs.Math.Path.{refl}
use Rattle.std.proofs.Common.{ap, sym, ◌∙◌}
use mathlib.Core.List.{List, [], ◌∷◌, ◌++◌}
use Rattle.utf8.specs.Choice.{pick}
use Rattle.utf8.specs.Table37.{WellFormed}
use Rattle.frame.specs.Frames.{frame_of}
use Rattle.frame.specs.declared.Frame.{Frame}
use Rattle.frame.specs.declared.Mode.{Mode}
use Rattle.reading.specs.Lists.{pieces, errors}
use Rattle.reading.specs.declared.Piece.{Piece}
use Rattle.reading.specs.declared.ErrorRecord.{ErrorRecord}
use Rattle.reading.specs.declared.Answer.{Answer}
use Rattle.reading.specs.declared.Request.{Request}
use Rattle.reading.specs.Wants.{wants}
use Rattle.reading.specs.Answers.{answered, frame_for, mode_of, mode_for}
use Rattle.reading.specs.Calls.{rooms_of, Read}
use Rattle.laws.specs.BrokenLaws.{well_whole}
use Rattle.unique.specs.Device.Readings.{has_reading}
use Rattle.joins.specs.Joins.{join, text_all, join_all, pieces_only, Premise}
use Rattle.joins.proofs.Device.Bytes.{well_append}
use Rattle.joins.proofs.Device.Texts.{joined_errors, joined_pieces}
use Rattle.joins.proofs.Device.Seams.{seam}
use Rattle.joins.proofs.Device.Calls.{is_done, is_utf8, no_errors, held_pieces, held_first, one_quote, joined_answer}

-- What holds of the texts t and u, the pieces ps and qs that they have, and the pieces rs and errors es of the joined text. (R12.1)
pub record Joined (t u : List ℕ) (ps qs rs : List Piece) (es : List ErrorRecord) : Type 0 where
  -- "read without error"
  pub clean : es ≡ []
  -- "The pieces are the first's and then the second's, byte places and spans moved, with implicit places and stars of the second raised by the
  -- number of both in the first. A final literal and an opening one that starts with no doubled brace become one."
  pub the_pieces : rs ≡ join t u ps qs

-- OF THE LISTS. A style is its quote offset here; snippets, marks and the length say nothing more.
pub joined : (m : Mode) (t u : List ℕ) (f g h : Frame) → WellFormed t → WellFormed u → f.quote ≡ h.quote → g.quote ≡ h.quote →
    errors t f m ≡ [] → errors u g m ≡ [] → Premise m t u →
    Joined t u (pieces t f m) (pieces u g m) (pieces (t ++ u) h m) (errors (t ++ u) h m)
joined m t u f g h v w x y e i p =
    record { clean = joined_errors m t u f g h v w e i p; the_pieces = joined_pieces m t u f g h v w x y e i p }

-- THREE TEXTS OR MORE, "a heading, a body and a footer": the same again. Texts with one style and no snippets.
module _ (m : Mode) (y : Option ℕ) where
  abbrev pub frame_in : List ℕ → Frame
  frame_in t = frame_of t y false [] false

  abbrev pub pieces_in : List ℕ → List Piece
  pieces_in t = pieces t (frame_in t) m

  abbrev pub errors_in : List ℕ → List ErrorRecord
  errors_in t = errors t (frame_in t) m

  -- each text after t is UTF-8, without errors, and within the premise where it is joined
  abbrev pub Following : List ℕ → List (List ℕ) → Type 0
  Following t [] = Unit {0}
  Following t (u ∷ us) = WellFormed u × (errors_in u ≡ []) × Premise m t u × Following (t ++ u) us

  pub many : (t : List ℕ) (us : List (List ℕ)) → WellFormed t → errors_in t ≡ [] → Following t us →
      (errors_in (text_all t us) ≡ []) × (pieces_in (text_all t us) ≡ join_all pieces_in t (pieces_in t) us)
  unfolding frame_of
  many t [] v e o = (e, refl)
  many t (u ∷ us) v e o =
      let one = joined m t u (frame_in t) (frame_in u) (frame_in (t ++ u)) v o.0 refl refl e o.1 o.2 in
      rw (← one.the_pieces) (many (t ++ u) us (well_append v o.0) one.clean o.3)

-- The premise may be asked of neighbours, where the text between is not empty.
pub neighbours : (m : Mode) (t u v : List ℕ) (g : Frame) → WellFormed u → errors u g m ≡ [] → u ≢ [] → Premise m u v → Premise m (t ++ u) v
neighbours m t u v g w e n p = let r = has_reading u g m (well_whole u w) e in seam m t u v r.0 r.1 n p

-- OF CALLS. "Error-free": a call for the text t, as q requests, that is done and counts no error; its list holds the pieces xs.
pub record Clean (t : List ℕ) (q : Request) (xs : List Piece) : Type 0 where
  pub snippet : List ℕ
  pub ps : List Piece
  pub ps' : List Piece
  pub es : List ErrorRecord
  pub es' : List ErrorRecord
  pub ls : List ℕ
  pub ls' : List ℕ
  pub ns : List ℕ
  pub ns' : List ℕ
  pub answer : Answer
  pub call : Read t snippet q ps ps' es es' ls ls' ns ns' answer
  pub done : answer.number ≡ 0
  pub no_error : answer.counts.errors ≡ 0
  pub holds : take answer.counts.pieces ps' ≡ xs

-- What holds of the joined text's call: its answer r, and its list of pieces before (rs) and after (rs'). (R12.7)
pub record JoinedCall (t u : List ℕ) (ps qs rs rs' : List Piece) (r : Answer) : Type 0 where
  -- no error is counted, nor an argument place or a line; 6 is answered where the list has no room for the pieces, else 0, with how many arguments
  -- they want (`join_wants` of Wanting: the larger of what both want, the second's raised); of the moves nothing is said here
  pub answer :
      let all = join t u ps qs in
      let short = ltb (length rs) (length all) in
      r ≡ answered (pick short 6 0) 0 (pieces_only (length all)) (pick short 0 (wants all)) r.moves
  -- done, the list holds the pieces
  pub the_pieces : r.number ≡ 0 → take (length (join t u ps qs)) rs' ≡ join t u ps qs

-- from a text t that reads so to t and one more
onward : {t u s : List ℕ} {q : Request} {ps qs rs rs' : List Piece} {es es' : List ErrorRecord} {ls ls' ns ns' : List ℕ} {r : Answer} (f : Frame) →
    WellFormed t → errors t f (mode_for q) ≡ [] → pieces t f (mode_for q) ≡ ps → f.quote ≡ (frame_for (t ++ u) s q).quote → Clean u q qs →
    q.given ≡ false → length (t ++ u) ≤ 65535 → Premise (mode_for q) t u → Read (t ++ u) s q rs rs' es es' ls ls' ns ns' r → JoinedCall t u ps qs rs rs' r
unfolding rooms_of
onward {t} {u} {s} {q} {ps} {qs} f v e h i y g l p k =
    let m : Mode = mode_for q in
    let j : Frame = frame_for (t ++ u) s q in
    let w = is_utf8 y.call y.done in
    let z = no_errors y.call y.done y.no_error in
    let b = joined m t u f (frame_for u y.snippet q) j v w i (one_quote u (t ++ u) y.snippet s q q refl) e z p in
    let c : pieces (t ++ u) j m ≡ join t u ps qs = rw (← y.holds, held_pieces y.call y.done, ← h) b.the_pieces in
    let a = k.answer ∙ joined_answer t u s y.snippet q _ _ _ (well_append v w) l g (is_done y.call y.done) c b.clean in
    record {
      answer = a ∙ ap (answered _ _ _ _) (sym (ap (λ (x : Answer). x.moves) a));
      the_pieces = λ d. rw c at (held_first k d);
    }

-- THREE CALLS
pub three_calls : {t u s : List ℕ} {q₁ q₂ : Request} {ps qs rs rs' : List Piece} {es es' : List ErrorRecord} {ls ls' ns ns' : List ℕ} {r : Answer} →
    -- "two error-free texts of one mode and style, no snippets" (the first's call may have one)
    Clean t q₁ ps → Clean u q₂ qs → q₁.mode ≡ q₂.mode → q₁.style ≡ q₂.style → q₂.given ≡ false →
    -- "joined within the length limit", and the premise
    length (t ++ u) ≤ 65535 → Premise (mode_for q₂) t u →
    -- the joined text's call, as the second's was requested
    Read (t ++ u) s q₂ rs rs' es es' ls ls' ns ns' r → JoinedCall t u ps qs rs rs' r
three_calls {t} {u} {s} {q₁} {q₂} x y e i g l p k =
    let a : mode_for q₁ ≡ mode_for q₂ = ap mode_of e in
    onward (frame_for t x.snippet q₁) (is_utf8 x.call x.done) (rw a at (no_errors x.call x.done x.no_error))
    (rw a at (sym (held_pieces x.call x.done) ∙ x.holds)) (one_quote t (t ++ u) x.snippet s q₁ q₂ i) y g l p k

-- Done, it is error-free itself, and may be joined again.
pub again : {t u s : List ℕ} {q : Request} {ps qs rs rs' : List Piece} {es es' : List ErrorRecord} {ls ls' ns ns' : List ℕ} {r : Answer} →
    Read (t ++ u) s q rs rs' es es' ls ls' ns ns' r → JoinedCall t u ps qs rs rs' r → r.number ≡ 0 → Clean (t ++ u) q (join t u ps qs)
again {rs' = rs'} k j z =
    record {
      snippet = _;
      ps = _;
      ps' = _;
      es = _;
      es' = _;
      ls = _;
      ls' = _;
      ns = _;
      ns' = _;
      answer = _;
      call = k;
      done = z;
      no_error = ap (λ (a : Answer). a.counts.errors) j.answer;
      holds = ap (λ (a : Answer). take a.counts.pieces rs') j.answer ∙ j.the_pieces z;
    }

-- FOUR CALLS: a heading, a body, a footer and the whole
pub four_calls : {t u v s : List ℕ} {q₁ q₂ q₃ : Request} {ps qs rs us us' : List Piece} {es es' : List ErrorRecord} {ls ls' ns ns' : List ℕ} {r : Answer} →
    Clean t q₁ ps → Clean u q₂ qs → Clean v q₃ rs →
    q₁.mode ≡ q₃.mode → q₁.style ≡ q₃.style → q₂.mode ≡ q₃.mode → q₂.style ≡ q₃.style → q₃.given ≡ false →
    length ((t ++ u) ++ v) ≤ 65535 → Premise (mode_for q₃) t u → Premise (mode_for q₃) (t ++ u) v →
    Read ((t ++ u) ++ v) s q₃ us us' es es' ls ls' ns ns' r → JoinedCall (t ++ u) v (join t u ps qs) rs us us' r
four_calls {t} {u} {v} {s} {q₁} {q₂} {q₃} x y z e i f j g l p o k =
    let a : mode_for q₁ ≡ mode_for q₃ = ap mode_of e in
    let b : mode_for q₂ ≡ mode_for q₃ = ap mode_of f in
    let c = is_utf8 x.call x.done in
    let d = is_utf8 y.call y.done in
    let h : Frame = frame_for ((t ++ u) ++ v) s q₃ in
    let one = joined (mode_for q₃) t u (frame_for t x.snippet q₁) (frame_for u y.snippet q₂) h c d
    (one_quote t ((t ++ u) ++ v) x.snippet s q₁ q₃ i) (one_quote u ((t ++ u) ++ v) y.snippet s q₂ q₃ j)
    (rw a at (no_errors x.call x.done x.no_error)) (rw b at (no_errors y.call y.done y.no_error)) p
    in
    onward h (well_append c d) one.clean
    (rw (← x.holds, ← y.holds, held_pieces x.call x.done, held_pieces y.call y.done, a, b) one.the_pieces) refl z g l o k
