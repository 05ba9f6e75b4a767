-- DEMAND 3 ON THE CALL: from an answer of 0 and lists that the public call's contract allows (`Read` of Calls), of the answer's
-- counts and of what the lists hold at exit. The page is grammar's Demand, the facts are Demand3's, and CallLaws joins them to the call.
use Rattle.std.specs.Prelude.{◌≡◌, refl, ◌↔◌, List, ℕ, ◌*◌, take}
use Rattle.std.proofs.Common.{ap, sym, ◌∙◌, le_of_eq}
use Rattle.utf8.specs.Table37.{WellFormed}
use Rattle.frame.specs.Frames.{quote_offset, frame_of}
use Rattle.frame.specs.declared.Frame.{Frame}
use Rattle.frame.specs.declared.Mode.{Mode}
use Rattle.reading.specs.Lists.{pieces, errors, places, lines, counts_of}
use Rattle.reading.specs.Wants.{wants}
use Rattle.reading.specs.declared.Piece.{Piece}
use Rattle.reading.specs.declared.ErrorRecord.{ErrorRecord}
use Rattle.reading.specs.Answers.{style_of, frame_for, mode_of, mode_for}
use Rattle.reading.specs.Written.{pairs}
use Rattle.reading.specs.declared.Request.{Request}
use Rattle.reading.specs.declared.Answer.{Answer}
use Rattle.reading.specs.Calls.{Read}
use Rattle.grammar.specs.Grammar.{Element, Reading}
use Rattle.grammar.specs.Demand.{Demand}
use Rattle.grammar.specs.Numbering.{numbers}
use Rattle.unique.specs.Demand3 as D
use Rattle.grammar.specs.Spanless as S
use Rattle.demand.specs.CallLaws.{is_utf8, counts_are, arguments_are, none_counted, held_pieces, held_errors, held_places, held_lines}
use Rattle.demand.specs.ArgumentLaws.{Below, numbers_below, wants_spanless}

-- "q is 1 with no style, hashes+2 with one"
abbrev pub quote_for : Request → ℕ
quote_for q = quote_offset (style_of q.style)

-- What holds of a done call for the text t, the snippet s and the request q that answered r and left the lists ps, es, ls and ns.
pub record OnTheCall (t s : List ℕ) (q : Request) (ps : List Piece) (es : List ErrorRecord) (ls ns : List ℕ) (r : Answer) : Type 0 where
  -- 4, "text is not UTF-8", is not the case
  pub utf8 : WellFormed t
  -- "The counts are the records needed"
  pub got_counts : r.counts ≡ counts_of t (frame_for t s q) (mode_for q)
  -- "Done fills the first records of each list", as many as it counts, with those of the definitions; a span takes two numbers
  pub got_pieces : take r.counts.pieces ps ≡ pieces t (frame_for t s q) (mode_for q)
  pub got_errors : take r.counts.errors es ≡ errors t (frame_for t s q) (mode_for q)
  pub got_places : take (2 * r.counts.places) ls ≡ pairs (places t (frame_for t s q) (mode_for q))
  pub got_lines : take (2 * r.counts.lines) ns ≡ pairs (lines t (frame_for t s q) (mode_for q))
  -- "one more than the largest argument number in any piece's place, width, precision or star": the figure is that of the pieces in the list,
  -- and no implicit place or star is at or above it
  pub got_arguments : r.arguments ≡ wants (take r.counts.pieces ps)
  pub enough : Below r.arguments (numbers (take r.counts.pieces ps))
  -- demand 3, of those pieces and errors
  pub demand : Demand (mode_for q) (quote_for q) t (take r.counts.pieces ps) (take r.counts.errors es)
  -- no error is counted exactly when the text has a reading
  pub counted : (r.counts.errors ≡ 0) ↔ ((els : List Element) × Reading (mode_for q) t els)

-- the offset of a call's frame is its style's
pub quote_of_style : (t s : List ℕ) (q : Request) → (frame_for t s q).quote ≡ quote_offset (style_of q.style)
unfolding frame_for frame_of
quote_of_style t s q = refl

-- so it is the one asked for
pub quote_is : (t s : List ℕ) (q : Request) → (frame_for t s q).quote ≡ quote_for q
unfolding frame_for frame_of
quote_is t s q = refl

-- THE THEOREM
pub on_the_call : {t s : List ℕ} {q : Request} {ps ps' : List Piece} {es es' : List ErrorRecord} {ls ls' ns ns' : List ℕ} {r : Answer} →
    Read t s q ps ps' es es' ls ls' ns ns' r → r.number ≡ 0 → OnTheCall t s q ps' es' ls' ns' r
on_the_call {t} {s} {q} x z =
    let f : Frame = frame_for t s q in
    let m : Mode = mode_for q in
    let v = is_utf8 x z in
    let d = D.demand t f m v in
    record {
      utf8 = v;
      got_counts = counts_are x z;
      got_pieces = held_pieces x z;
      got_errors = held_errors x z;
      got_places = held_places x z;
      got_lines = held_lines x z;
      got_arguments = rw (held_pieces x z) (arguments_are x z);
      enough = rw (held_pieces x z) (numbers_below _ (pieces t f m) (le_of_eq (sym (arguments_are x z))));
      demand = rw (held_pieces x z, held_errors x z, ← (quote_of_style t s q)) d;
      counted = (λ n. d.exactly.0 ((none_counted x z).0 n), λ e. (none_counted x z).1 (d.exactly.1 e));
    }

-- What is the same but for spans: pieces without theirs, the kinds of errors, what they quote, and the pieces before them.
pub record SameButSpans (ps ps₂ : List Piece) (es es₂ : List ErrorRecord) : Type 0 where
  pub pieces : S.pieces ps ≡ S.pieces ps₂
  pub kinds : S.kinds es ≡ S.kinds es₂
  pub quotes : S.quotes es ≡ S.quotes es₂
  pub before : S.before es ≡ S.before es₂

-- TWO CALLS for one text in one mode, both done, with any styles, snippets, marks and lists: what they put into their lists is the same but for spans.
pub same_for_any_frame : {t s s₂ : List ℕ} {q q₂ : Request} {r r₂ : Answer} {ps ps' ps₂ ps₂' : List Piece} {es es' es₂ es₂' : List ErrorRecord}
    {ls ls' ls₂ ls₂' ns ns' ns₂ ns₂' : List ℕ} →
    Read t s q ps ps' es es' ls ls' ns ns' r → r.number ≡ 0 → Read t s₂ q₂ ps₂ ps₂' es₂ es₂' ls₂ ls₂' ns₂ ns₂' r₂ → r₂.number ≡ 0 → q.mode ≡ q₂.mode →
    SameButSpans (take r.counts.pieces ps') (take r₂.counts.pieces ps₂') (take r.counts.errors es') (take r₂.counts.errors es₂')
same_for_any_frame {t} {s} {s₂} {q} {q₂} x z y w e =
    let f : Frame = frame_for t s q in
    let g : Frame = frame_for t s₂ q₂ in
    let m : Mode = mode_for q in
    let n : mode_for q₂ ≡ m = ap mode_of (sym e) in
    record {
      pieces = rw (held_pieces x z, held_pieces y w, n) (D.same_pieces t f g m);
      kinds = rw (held_errors x z, held_errors y w, n) (D.same_kinds t f g m);
      quotes = rw (held_errors x z, held_errors y w, n) (D.same_quotes t f g m);
      before = rw (held_errors x z, held_errors y w, n) (D.same_before t f g m);
    }

-- and they want as many arguments
pub same_arguments : {t s s₂ : List ℕ} {q q₂ : Request} {r r₂ : Answer} {ps ps' ps₂ ps₂' : List Piece} {es es' es₂ es₂' : List ErrorRecord}
    {ls ls' ls₂ ls₂' ns ns' ns₂ ns₂' : List ℕ} →
    Read t s q ps ps' es es' ls ls' ns ns' r → r.number ≡ 0 → Read t s₂ q₂ ps₂ ps₂' es₂ es₂' ls₂ ls₂' ns₂ ns₂' r₂ → r₂.number ≡ 0 → q₂.mode ≡ q.mode →
    r.arguments ≡ r₂.arguments
same_arguments {t} {s} {s₂} {q} {q₂} x z y w e =
    let f : Frame = frame_for t s q in
    let g : Frame = frame_for t s₂ q₂ in
    let m : Mode = mode_for q in
    let n : mode_for q₂ ≡ m = ap mode_of e in
    let there : wants (pieces t g m) ≡ wants (pieces t g (mode_for q₂)) = rw n in
    arguments_are x z ∙ wants_spanless (pieces t f m) ∙ ap wants (D.same_pieces t f g m) ∙ sym (wants_spanless (pieces t g m)) ∙ there ∙ sym (arguments_are y w)
