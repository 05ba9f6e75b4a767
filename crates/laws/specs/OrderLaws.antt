-- The literal text of a reading stands in order: each character ends before the next starts. So each line starts before the next, and
-- the last line is none of those before it. Rests on Lists and StepLaws, and on the laws of where `scan` and `placeholder` stop.
use Rattle.std.specs.Prelude.{ℕ, zero, suc, ◌+◌, ◌≤◌, ◌<◌, ◌≡◌, refl, Bool, true, false, eqb, get_or, Option, Some, None}
use Rattle.std.proofs.Common.{sym, ◌∙◌, ap, true≢false}
use Rattle.std.proofs.Math.Path.{subst}
use mathlib.Core.List.{List, [], ◌∷◌, ◌++◌, append-nil}
use Rattle.std.proofs.Math.Nat.{le_refl, le_trans}
use native.Mathlib.Omega.{arith}
use borrow.Author.Tests.{lt-ltb, eqb-true}
use Rattle.std.proofs.Math.ListN.{length}
use Rattle.utf8.specs.Choice.{pick}
use Rattle.utf8.specs.ChoiceLaws.{pick_elim, both_left}
use Rattle.utf8.specs.Chars.{Ch, chars_from, before, take_while, drop_while, bytes, run_end}
use Rattle.utf8.specs.CharLaws.{peeked, first, before_past, before_more, run_split}
use Rattle.frame.specs.Places.{snippet, range_of, span_of}
use Rattle.frame.specs.declared.TextPlace.{TextPlace}
use Rattle.frame.specs.Spans.{to_snippet}
use Rattle.frame.specs.declared.SnippetPlace.{SnippetPlace}
use Rattle.frame.specs.declared.Span.{Span}
use Rattle.frame.specs.declared.Frame.{Frame}
use Rattle.scan.specs.Characters.{consumed, spaces_past, is_plain, text_end}
use Rattle.scan.specs.ScanLaws.{is_at_seen, consumed_on, consumed_some, consumed_is, spaces_on, text_on, word_on, number_on}
use Rattle.scan.specs.Words.{word_read, number_read}
use Rattle.placeholder.specs.Places.{raw_place, word_place, place_after, place_read}
use Rattle.placeholder.specs.Specs.{diagnostic_type, spec_read}
use Rattle.placeholder.specs.Arguments.{argument_read}
use Rattle.closing.specs.Recovery.{text_taken, field_read, recover_read}
use Rattle.closing.specs.Recovering.{after_question, recovering, recover_table}
use Rattle.closing.specs.Wholes.{missing_read, placeholder_read}
use Rattle.closing.specs.OnwardLaws.{argument_on, recover_on}
use Rattle.frame.specs.declared.Mode.{Mode}
use Rattle.placeholder.specs.declared.position.PlaceRead.{PlaceRead}
use Rattle.placeholder.specs.declared.format.SpecRead.{SpecRead}
use Rattle.closing.specs.declared.recover.Recovery.{Recovery}
use Rattle.closing.specs.declared.whole.PlaceholderRead.{PlaceholderRead}
use Rattle.reading.specs.Steps.{after_open, after_close, step_at, onward, reading}
use Rattle.laws.specs.StepLaws.{step_later, Run, reading_run}
use Rattle.reading.specs.Lines.{chars_in, is_newline, ch_start, cut, line_after, ended_lines, line_start}
use Rattle.reading.specs.Lists.{gather, texts_of, literal_chars, to_the_end, same_span, is_last, lines_in, lines}
use Rattle.laws.specs.ListLaws.{literal_more, literal_none, plain_lines}
use Rattle.reading.specs.declared.State.{State}
use Rattle.reading.specs.declared.Step.{Step}
use Rattle.scan.specs.declared.Numeral.{Numeral}

-- characters that stand in order from byte i on, the last of which ends by byte j
pub data InOrder : ℕ → List Ch → ℕ → Type 0 where
  none : {i j : ℕ} → i ≤ j → InOrder i [] j
  more : {i j : ℕ} {c : Ch} {cs : List Ch} → i ≤ c.at → 1 ≤ c.width → InOrder (c.at + c.width) cs j → InOrder i (c ∷ cs) j

-- they do so from any byte before i, and by any byte after j
pub order_wide : {h i j k : ℕ} {cs : List Ch} → h ≤ i → j ≤ k → InOrder i cs j → InOrder h cs k
order_wide l r (InOrder.none o) = InOrder.none (le_trans l (le_trans o r))
order_wide {h = h} {k = k} l r (InOrder.more {i = i} {j = j} {c = c} {cs = cs} a w o) = InOrder.more (le_trans l a) w (order_wide {h = c.at + c.width} (le_refl _) r o)

-- joined
pub order_append : {i j k : ℕ} {a b : List Ch} → InOrder i a j → InOrder j b k → InOrder i (a ++ b) k
order_append (InOrder.none o) p = order_wide o (le_refl _) p
order_append (InOrder.more a w o) p = InOrder.more a w (order_append o p)

module _ (t : List ℕ) where
  -- the first characters from a place stand in order
  pub order_chars : (p q : List Ch) (i : ℕ) → chars_from t i ≡ p ++ q → InOrder i p (i + bytes p)
  unfolding bytes
  order_chars [] q i e = let l : i ≤ i + 0 = omega arith in InOrder.none l
  order_chars (c ∷ p) q i e =
      let f = first t i c (p ++ q) e in
      let at : i ≤ c.at = omega (arith, f.place) in
      let from : c.at + c.width ≤ i + c.width = omega (arith, f.place) in
      InOrder.more at (peeked t i f.seen).some
      (order_wide {k = i + (c.width + bytes p)} from (omega arith) (order_chars p q (i + c.width) f.rest))

  -- and are those before the byte where they end
  pub before_bytes : (p q : List Ch) (i : ℕ) → chars_from t i ≡ p ++ q → before (i + bytes p) (chars_from t i) ≡ p
  unfolding before bytes pick
  before_bytes [] q i e = before_past t (i + 0) i (omega arith)
  before_bytes (c ∷ p) q i e =
      let f = first t i c (p ++ q) e in
      let w = peeked t i f.seen in
      let at = f.place in
      let l : c.at < i + (c.width + bytes p) = omega arith in
      let sum : i + c.width + bytes p ≡ i + (c.width + bytes p) = omega arith in
      let rest : before (i + (c.width + bytes p)) (chars_from t (i + c.width)) ≡ p = subst (λ k. before k (chars_from t (i + c.width)) ≡ p) sum (before_bytes p q (i + c.width) f.rest) in
      rw (e, lt-ltb c.at (i + (c.width + bytes p)) l, ← f.rest) (ap (◌∷◌ c) rest)

  -- so the characters of a run are those between its ends
  pub run_chars : (g : ℕ → Bool) (i : ℕ) → before (run_end g t i) (chars_from t i) ≡ take_while g (chars_from t i)
  unfolding run_end
  run_chars g i = before_bytes (take_while g (chars_from t i)) (drop_while g (chars_from t i)) i (sym (run_split g (chars_from t i)))

  -- no character stands between a place and itself
  pub chars_none : (p : TextPlace) → chars_in t (range_of p p) ≡ []
  unfolding chars_in
  chars_none p = before_past t p.0 p.0 (le_refl p.0)

  -- so nothing stands out of order there
  order_none : (p : TextPlace) {i : ℕ} → i ≤ p.0 → InOrder i (chars_in t (range_of p p)) p.0
  order_none p l = rw chars_none (InOrder.none l)

  -- literal text stands in order
  pub order_text : (at : TextPlace) → InOrder at.0 (chars_in t (range_of at (text_end t at))) (text_end t at).0
  unfolding chars_in text_end run_end
  order_text at =
      let cs = chars_from t at.0 in
      rw (run_chars is_plain at.0) (order_chars (take_while is_plain cs) (drop_while is_plain cs) at.0 (sym (run_split is_plain cs)))

  -- and so does a doubled brace's second one with the text after it
  pub order_doubled : (at : TextPlace) (c : ℕ) → c < 0x80 → (consumed t at c).ate ≡ true →
      InOrder at.0 (chars_in t (range_of at (text_end t (consumed t at c).at))) (text_end t (consumed t at c).at).0
  unfolding chars_in
  order_doubled at c small y =
      let past = (consumed t at c).at in
      let one = consumed_some t at c y in
      let on = text_on t past in
      let end = (text_end t past).0 in
      let l : at.0 < end = omega arith in
      let next : at.0 + 1 ≤ past.0 = omega arith in
      let after : InOrder past.0 (before end (chars_from t past.0)) end = order_text past in
      let seen = is_at_seen t at c small (sym (consumed_is t at c) ∙ y) in
      rw (before_more t end at.0 l seen, ← one) (InOrder.more (le_refl at.0) (le_refl 1) (order_wide next (le_refl _) after))

-- the place of an argument goes forward
place_on : (t : List ℕ) (at : TextPlace) → at.0 ≤ (place_read t at).at.0
unfolding place_read word_place raw_place word_read
place_on t at = go (number_read t at).number
  where
    go : (n : Option Numeral) → at.0 ≤ (place_after t at (number_read t at) n).at.0
    go (Some n) = number_on t at
    go None =
        let P : PlaceRead → Type 0 = λ r. at.0 ≤ r.at.0 in
        let word = word_on t at in
        pick_elim P _ (λ _. le_refl at.0)
        (λ _.
        pick_elim P _
        (λ _.
        pick_elim P _
        (λ _. pick_elim P _ (λ _. word) (λ _. le_trans word (le_trans (consumed_on t _ 0x23) (word_on t _))))
        (λ _. word))
        (λ _. word))

-- nothing stands after a `?`
order_question : (t : List ℕ) (at past : TextPlace) (n : ℕ) {i : ℕ} → i ≤ (after_question t at past n).at.0 →
    InOrder i (chars_in t (after_question t at past n).text) (after_question t at past n).at.0
unfolding after_question
order_question t at past n {i} =
    let P : Recovery → Type 0 = λ r. i ≤ r.at.0 → InOrder i (chars_in t r.text) r.at.0 in
    pick_elim P _ (λ _. order_none t past) (λ _. pick_elim P _ (λ _. order_none t _) (λ _. order_none t past))

module _ (t : List ℕ) (f : Frame) where
  -- the literal text of a spec stands within it
  order_spec : (at : TextPlace) (n : ℕ) →
      InOrder at.0 (chars_in t (spec_read t f Mode.Diagnostic at n).spec.typetext) (spec_read t f Mode.Diagnostic at n).at.0
  unfolding spec_read diagnostic_type
  order_spec at n =
      pick_elim (λ (r : SpecRead). InOrder at.0 (chars_in t r.spec.typetext) r.at.0) _
      (λ _. order_wide (consumed_on t at 0x3A) (le_refl _) (order_text t _))
      (λ _. order_none t at (le_refl at.0))

  -- that of an argument stands within it
  order_argument : (m : Mode) (at : TextPlace) (n : ℕ) →
      InOrder at.0 (chars_in t (text_taken m (argument_read t f m at n).spec.typetext)) (argument_read t f m at n).at.0
  unfolding argument_read
  order_argument Mode.Format at n = rw chars_none (InOrder.none (argument_on t f Mode.Format at n))
  order_argument Mode.InlineAsm at n = rw chars_none (InOrder.none (argument_on t f Mode.InlineAsm at n))
  order_argument Mode.Diagnostic at n =
      order_wide (le_trans (place_on t at) (spaces_on t (place_read t at).at)) (le_refl _) (order_spec (spaces_past t (place_read t at).at) n)

  module _ (m : Mode) where
    -- that of a field
    order_field : (from at : TextPlace) (n : ℕ) → at.0 ≤ (field_read t f m from at n).at.0 →
        InOrder at.0 (chars_in t (field_read t f m from at n).text) (field_read t f m from at n).at.0
    unfolding field_read
    order_field from at n =
        pick_elim (λ (r : Recovery). at.0 ≤ r.at.0 → InOrder at.0 (chars_in t r.text) r.at.0) _
        (λ _ _. order_wide (consumed_on t at 0x2E) (consumed_on t _ 0x7D) (order_argument m _ n)) (λ _. order_none t at)

    -- that of what is passed where a closing brace is missing
    order_recover : (from : TextPlace) (i : Bool) (at : TextPlace) (n : ℕ) →
        InOrder at.0 (chars_in t (recover_read t f m from i at n).text) (recover_read t f m from i at n).at.0
    unfolding recovering
    order_recover from i at n =
        let P : Recovery → Type 0 = λ r. at.0 ≤ r.at.0 → InOrder at.0 (chars_in t r.text) r.at.0 in
        rw (recover_table t f m from i at n)
        (pick_elim P _
        (λ _.
        pick_elim P _ (λ _. order_question t at _ n)
        (λ _. pick_elim P _ (λ _. pick_elim P _ (λ _. order_field from at n) (λ _. order_none t at)) (λ _. order_none t _)))
        (λ _. order_none t at)
        (rw (recover_table t f m from i at n) at (recover_on t f m from i at n)))

    -- that of a placeholder
    order_placeholder : (brace at : TextPlace) (n : ℕ) →
        InOrder at.0 (gather (chars_in t) (texts_of (Step.Placeholder (placeholder_read t f m brace at n)))) (placeholder_read t f m brace at n).at.0
    unfolding placeholder_read missing_read gather
    order_placeholder brace at n =
        let a = argument_read t f m at n in
        let end = spaces_past t a.at in
        let own = order_argument m at n in
        pick_elim (λ (r : PlaceholderRead). InOrder at.0 (gather (chars_in t) (texts_of (Step.Placeholder r))) r.at.0) _
        (λ _. rw append-nil (order_wide (le_refl at.0) (le_trans (spaces_on t a.at) (consumed_on t end 0x7D)) own))
        (λ _. rw append-nil (order_append own (order_wide (spaces_on t a.at) (le_refl _) (order_recover _ _ end _))))

-- where reading goes on; where it is over, it stands still
abbrev until : State → Option State → ℕ
until s None = s.at.0
until s (Some s') = s'.at.0

module _ (t : List ℕ) (f : Frame) (m : Mode) where
  -- the literal text of a step stands between where reading stood and where it goes on
  Placed : State → Step → Type 0
  Placed s x = InOrder s.at.0 (gather (chars_in t) (texts_of x)) (until s (onward s x))

  -- each step's does
  order_step : (s : State) → Placed s (step_at t f m s)
  unfolding Placed step_at after_open after_close gather
  order_step s =
      let open' = (consumed t s.at 0x7B).at in
      let close = (consumed t s.at 0x7D).at in
      pick_elim (Placed s) _
      (λ _.
      pick_elim (Placed s) _
      (λ _.
      pick_elim (Placed s) _
      (λ y. rw append-nil (order_wide (consumed_on t s.at 0x7B) (le_refl _) (order_doubled t open' 0x7B (omega arith) y)))
      (λ _. order_wide (consumed_on t s.at 0x7B) (le_refl _) (order_placeholder t f m s.at open' s.next)))
      (λ _.
      pick_elim (Placed s) _
      (λ _.
      pick_elim (Placed s) _
      (λ y. rw append-nil (order_wide (consumed_on t s.at 0x7D) (le_refl _) (order_doubled t close 0x7D (omega arith) y)))
      (λ _. InOrder.none (le_refl s.at.0)))
      (λ _. rw append-nil (order_text t s.at))))
      (λ _. InOrder.none (le_refl s.at.0))

  -- and so does that of a step of a run
  order_going : (s : State) {x : Step} {o : Option State} → x ≡ step_at t f m s → onward s x ≡ o →
      InOrder s.at.0 (gather (chars_in t) (texts_of x)) (until s o)
  unfolding Placed
  order_going s {x} e o =
      subst (λ (o : Option State). InOrder s.at.0 (gather (chars_in t) (texts_of x)) (until s o)) o (subst (Placed s) (sym e) (order_step s))

  -- that of a run stands within the text
  pub order_run : {s : State} {xs : List Step} → s.at.0 ≤ length t → Run t f m s xs → InOrder s.at.0 (literal_chars t xs) (length t)
  order_run {s} l (Run.last e o) = rw (literal_more, literal_none) (order_append (order_going s e o) (InOrder.none l))
  order_run {s} l (Run.more e o r) =
      let later = step_later t f m s (ap (onward s) (sym e) ∙ o) in
      rw literal_more (order_append (order_going s e o) (order_run later.inside r))

  -- and so does that of a reading
  pub order_reading : InOrder 0 (literal_chars t (reading t f m)) (length t)
  order_reading = order_run (omega arith) (reading_run t f m)

-- each line starts before n where the first does and each of the others
each_before : {n : ℕ} (y : Span) (ys : List Span) (d : Span) → y.start.0 < n → ((k : ℕ) → k < length ys → (get_or ys k d).start.0 < n) →
    (k : ℕ) → k < length (y ∷ ys) → (get_or (y ∷ ys) k d).start.0 < n
each_before y ys d one others zero h = one
each_before y ys d one others (suc k) h = others k (omega arith)

module _ (f : Frame) where
  -- where the line starts after a character: no earlier, and by the character's end
  after_in : {i : ℕ} (line : SnippetPlace) (c : Ch) → line.0 ≤ i + f.quote → i ≤ c.at →
      (line.0 ≤ (line_after f line c).0) × ((line_after f line c).0 ≤ c.at + c.width + f.quote)
  unfolding line_after cut to_snippet
  after_in line c l a =
      let P : SnippetPlace → Type 0 = λ p. (line.0 ≤ p.0) × (p.0 ≤ c.at + c.width + f.quote) in
      pick_elim P _ (λ _. omega arith) (λ _. pick_elim P _ (λ _. omega arith) (λ _. omega arith))

  -- the line after some characters starts no earlier
  start_later : {i j : ℕ} {cs : List Ch} (line : SnippetPlace) → line.0 ≤ i + f.quote → InOrder i cs j → line.0 ≤ (line_start f line cs).0
  unfolding line_start
  start_later line l (InOrder.none o) = le_refl line.0
  start_later line l (InOrder.more {c = c} a w o) =
      let after = after_in line c l a in
      le_trans after.0 (start_later (line_after f line c) after.1 o)

  -- a newline ends the line before the next one starts
  newline_later : {i : ℕ} (line : SnippetPlace) (c : Ch) → line.0 ≤ i + f.quote → i ≤ c.at → 1 ≤ c.width → is_newline c ≡ true →
      line.0 < (line_after f line c).0
  unfolding line_after to_snippet pick
  newline_later line c l a w y = rw y (omega arith)

  -- each line that ends starts before the line after them
  pub line_before : {i j : ℕ} {cs : List Ch} (line : SnippetPlace) → line.0 ≤ i + f.quote → InOrder i cs j →
      (d : Span) (k : ℕ) → k < length (ended_lines f line cs) → (get_or (ended_lines f line cs) k d).start.0 < (line_start f line cs).0
  unfolding ended_lines line_start
  line_before line l (InOrder.none o) d k h = absurd (omega arith)
  line_before line l (InOrder.more {c = c} {cs = cs} a w o) d k h =
      let next = line_after f line c in
      let after = after_in line c l a in
      let later = line_before next after.1 o d in
      pick_elim (λ (ys : List Span). k < length ys → (get_or ys k d).start.0 < (line_start f next cs).0) (is_newline c)
      (λ y.
      let less = le_trans (newline_later line c l a w y) (start_later next after.1 o) in
      each_before (span_of line (ch_start f c)) (ended_lines f next cs) d less later k)
      (λ _. later k) h

-- the last line is none of those before it
pub last_differs : (t : List ℕ) (f : Frame) (m : Mode) (k : ℕ) (d : Span) (e : SnippetPlace) →
    k < length (ended_lines f (snippet f.quote) (literal_chars t (reading t f m))) →
    get_or (ended_lines f (snippet f.quote) (literal_chars t (reading t f m))) k d ≡
    span_of (line_start f (snippet f.quote) (literal_chars t (reading t f m))) e → ⊥
last_differs t f m k d e h same =
    let less = line_before f (snippet f.quote) (omega arith) (order_reading t f m) d k h in
    let start = ap (λ (y : Span). y.start.0) same in
    omega arith

-- where a span is the last of some, one of them starts where it does
is_last_lem : (x : Span) (ys : List Span) (d : Span) → is_last x ys ≡ true → (k : ℕ) × ((k < length ys) × ((get_or ys k d).start.0 ≡ x.start.0))
unfolding is_last same_span
is_last_lem x [] d e = absurd (true≢false (sym e))
is_last_lem x (y ∷ []) d e = (0, (omega arith, sym (eqb-true x.start.0 y.start.0 (both_left (eqb x.start.0 y.start.0) _ e))))
is_last_lem x (y ∷ z ∷ zs) d e = let r = is_last_lem x (z ∷ zs) d e in (suc r.0, (omega (arith, r.1.0), r.1.1))

-- so the last line is always added: it never equals the one before it
pub lines_plain : (t : List ℕ) (f : Frame) (m : Mode) →
    lines t f m ≡ pick f.literal (plain_lines f (literal_chars t (reading t f m)) (to_the_end (reading t f m))) []
unfolding lines lines_in plain_lines pick
lines_plain t f m = rw (go (is_last last others) refl)
  where
    first : SnippetPlace
    first = snippet f.quote

    others : List Span
    others = ended_lines f first (literal_chars t (reading t f m))

    last : Span
    last = span_of (line_start f first (literal_chars t (reading t f m))) f.end

    go : (b : Bool) → is_last last others ≡ b → is_last last others ≡ false
    go false e = e
    go true e =
        let k = is_last_lem last others last e in
        let less = line_before f first (omega arith) (order_reading t f m) last k.0 k.1.0 in
        absurd (omega (arith, k.1.1))
