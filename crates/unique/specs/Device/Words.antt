-- Words, numbers and counts of the reading, where codes stand: what they found, where they stopped, and whether they are clean.
-- Rests on Stands and Parser.
use Rattle.std.specs.Prelude.{◌≡◌, Bool, true, false, not, eqb, leb, Some, None}
use Rattle.std.proofs.Math.Path.{refl, ap}
use Rattle.std.proofs.Common.{◌∙◌, arith}
use mathlib.Core.List.{List, [], ◌∷◌}
use Prim.Native.Nat.{ℕ, ◌+◌, ◌-◌, ◌*◌}
use Rattle.std.proofs.Math.Nat.{add_assoc}
use borrow.Author.Tests.{eq-eqb, ne_eqb, leb-true, leb-false, lt-ltb, le-ltb}
use Rattle.utf8.specs.Choice.{pick}
use Rattle.utf8.specs.ChoiceLaws.{both_false}
use Rattle.utf8.specs.Chars.{chars_from, take_while, run_end}
use Rattle.utf8.specs.CharLaws.{seen_in}
use Rattle.letters.specs.Questions.{is_start, is_continue}
use Rattle.frame.specs.Places.{place, range_of}
use Rattle.frame.specs.declared.TextPlace.{TextPlace}
use Rattle.frame.specs.declared.TextRange.{TextRange}
use Rattle.frame.specs.declared.Frame.{Frame}
use Rattle.scan.specs.Characters.{is_at}
use Rattle.scan.specs.Words.{word_seen, word_end, is_underscore, word_read, is_digit, decimal, numeral, too_large, digits_at, number_from, number_read}
use Rattle.scan.specs.Counts.{is_empty, counted, number_count, name_after, name_count, count_read}
use Rattle.scan.specs.declared.Flaw.{Flaw}
use Rattle.scan.specs.declared.WordRead.{WordRead}
use Rattle.scan.specs.declared.NumberRead.{NumberRead}
use Rattle.scan.specs.declared.Numeral.{Numeral}
use Rattle.scan.specs.declared.Count.{Count}
use Rattle.scan.specs.declared.CountRead.{CountRead}
use Rattle.reading.specs.Faults.{is_clean, flaw_fault}
use Rattle.grammar.specs.Grammar.{value, Width}
use Rattle.grammar.specs.Pieces.{wide, size, count_of}
use Rattle.unique.specs.Device.Runs.{case_b, take_w, drop_w, Stops, take_drop}
use Rattle.unique.specs.Device.Parser.{Got, ok_number, ok_word, number_of, name_of, width_of}
use Rattle.unique.specs.Device.Spans.{between}
use Rattle.unique.specs.Device.Stands.{mark_wide, wide_some, Stands, run_none, stands_past, stands_end, chars, run_chars, run_place, is_at_lem, consume_yes, consume_no, past_ascii}

pick_not : {A : Type 0} (b : Bool) (x y : A) → pick (not b) x y ≡ pick b y x
unfolding pick
pick_not true x y = refl
pick_not false x y = refl

-- a leaf found nothing wrong
abbrev pub flawless : Flaw → Bool
flawless x = is_clean (flaw_fault x)

-- a flaw that is chosen where something is not right is none where it is
pub clean_pick : (b : Bool) (x : Flaw) → flawless x ≡ false → flawless (pick b Flaw.Clean x) ≡ b
unfolding pick
clean_pick true x h = refl
clean_pick false x h = h

-- an empty range, and one that is not
pub empty : (at : TextPlace) → is_empty (range_of at at) ≡ true
unfolding is_empty
empty at = eq-eqb at.0 at.0 refl

pub not_empty : (at : TextPlace) (c : ℕ) (r : List ℕ) → is_empty (range_of at (place (at.0 + size (c ∷ r)))) ≡ false
unfolding is_empty size
not_empty at c r = ne_eqb at.0 (at.0 + (wide c + size r)) (omega (arith, wide_some c))

-- past a word, and past a number
pub past_word : (t : List ℕ) (at : TextPlace) (p : ℕ → Bool) (c : ℕ) (cs : List ℕ) → Stands t at.0 (c ∷ cs) →
    Stands t (at.0 + size (c ∷ take_w p cs)) (drop_w p cs)
past_word t at p c cs h = stands_past t at.0 (c ∷ take_w p cs) (drop_w p cs) (rw (take_drop p cs) h)

-- WORDS
module _ (t : List ℕ) (at : TextPlace) where
  -- no word
  end_none : (cs : List ℕ) → Stands t at.0 cs → Stops is_start cs → word_end t at ≡ at
  unfolding word_end pick
  end_none [] h s = cc (stands_end t at.0 h)
  end_none (c ∷ cs) h s = ap (word_seen t at) h.0 ∙ cc

  pub word_none : (cs : List ℕ) → Stands t at.0 cs → Stops is_start cs → word_read t at ≡ record { word = range_of at at; flaw = Flaw.Clean }
  unfolding word_read is_underscore pick
  word_none cs h s =
      cc (end_none cs h s, ne_eqb at.0 (at.0 + 1) (omega arith), both_false (is_at t at 0x5F))

  -- a word
  end_some : (c : ℕ) (cs : List ℕ) → Stands t at.0 (c ∷ cs) → is_start c ≡ true → word_end t at ≡ place (at.0 + size (c ∷ take_w is_continue cs))
  unfolding word_end pick size
  end_some c cs h s =
      let e : word_end t at ≡ place (run_end is_continue t (at.0 + wide c)) = cc h.0 in
      e ∙ ap place (run_place is_continue t (at.0 + wide c) cs h.1 ∙ add_assoc at.0 (wide c) (size (take_w is_continue cs)))

  -- it is `_` where it is not right
  underscore : (c : ℕ) (cs r : List ℕ) → Stands t at.0 (c ∷ cs) → is_underscore t at (place (at.0 + size (c ∷ r))) ≡ not (ok_word c r)
  unfolding is_underscore ok_word size
  underscore c cs [] h =
      case_b (eqb c 0x5F)
      (λ k.
      let w : wide c ≡ 1 = mark_wide c 0x5F (omega arith) k in
      cc (is_at_lem t at 0x5F (c ∷ cs) h, eq-eqb (at.0 + (wide c + 0)) (at.0 + 1) (omega arith)))
      (λ k. cc (is_at_lem t at 0x5F (c ∷ cs) h))
  underscore c cs (d ∷ r) h =
      case_b (eqb c 0x5F)
      (λ k.
      let w : wide c ≡ 1 = mark_wide c 0x5F (omega arith) k in
      cc (is_at_lem t at 0x5F (c ∷ cs) h, ne_eqb (at.0 + (wide c + (wide d + size r))) (at.0 + 1) (omega (arith, wide_some d))))
      (λ k. cc (is_at_lem t at 0x5F (c ∷ cs) h))

  unfoldable pub word_of : ℕ → List ℕ → WordRead
  word_of c r =
      let end = place (at.0 + size (c ∷ r)) in
      record { word = range_of at end; flaw = pick (ok_word c r) Flaw.Clean (Flaw.Underscore (range_of at end)) }

  pub word_some : (c : ℕ) (cs : List ℕ) → Stands t at.0 (c ∷ cs) → is_start c ≡ true → word_read t at ≡ word_of c (take_w is_continue cs)
  unfolding word_read word_of
  word_some c cs h s =
      cc (
        end_some c cs h s,
        underscore c cs (take_w is_continue cs) h,
        pick_not (ok_word c (take_w is_continue cs)) (Flaw.Underscore (range_of at (place (at.0 + size (c ∷ take_w is_continue cs))))) Flaw.Clean,
      )

-- NUMBERS
decimal_value : (n i : ℕ) (ds : List ℕ) → decimal n (chars i ds) ≡ value n ds
unfolding decimal chars
decimal_value n i [] = refl
decimal_value n i (d ∷ ds) = decimal_value (n * 10 + (d - 0x30)) (i + wide d) ds

-- a number up to 65,535 is answered as itself
within_numeral : (n : ℕ) → leb n 65535 ≡ true → numeral n ≡ Numeral.Within n
unfolding numeral pick
within_numeral n k = rw (le-ltb 65535 n (leb-true n 65535 k))

-- and any other is over range
over_numeral : (n : ℕ) → leb n 65535 ≡ false → numeral n ≡ Numeral.Over
unfolding numeral pick
over_numeral n k = rw (lt-ltb 65535 n (leb-false n 65535 k))

-- which alone is a flaw
large_numeral : (n : ℕ) (r : TextRange) → too_large (numeral n) r ≡ pick (leb n 65535) Flaw.Clean (Flaw.TooLarge r)
unfolding pick
large_numeral n r = case_b (leb n 65535) (λ k. rw (within_numeral n k, k)) (λ k. rw (over_numeral n k, k))

module _ (t : List ℕ) (at : TextPlace) where
  pub number_none : (cs : List ℕ) → Stands t at.0 cs → Stops is_digit cs →
      number_read t at ≡ record { number = None; digits = range_of at at; flaw = Flaw.Clean }
  unfolding number_read number_from pick size
  number_none cs h s =
      rw (run_none is_digit t at.0 cs h s, eq-eqb at.0 at.0 refl)

  unfoldable pub number_at : ℕ → List ℕ → NumberRead
  number_at d ds =
      let end = place (at.0 + size (d ∷ ds)) in
      record {
        number = Some (numeral (value 0 (d ∷ ds)));
        digits = range_of at end;
        flaw = pick (ok_number d ds) Flaw.Clean (Flaw.TooLarge (range_of at end));
      }

  taken : (d : ℕ) (cs : List ℕ) → is_digit d ≡ true → take_w is_digit (d ∷ cs) ≡ d ∷ take_w is_digit cs
  unfolding take_w
  taken d cs s = cc

  pub number_some : (d : ℕ) (cs : List ℕ) → Stands t at.0 (d ∷ cs) → is_digit d ≡ true → number_read t at ≡ number_at d (take_w is_digit cs)
  unfolding number_read number_from digits_at ok_number number_at pick size
  number_some d cs h s =
      let ds : List ℕ = take_w is_digit cs in
      let v : ℕ = value 0 (d ∷ ds) in
      let e : run_end is_digit t at.0 ≡ at.0 + size (d ∷ ds) = run_place is_digit t at.0 (d ∷ cs) h ∙ ap (λ l. at.0 + size l) (taken d cs s) in
      let q : decimal 0 (take_while is_digit (chars_from t at.0)) ≡ v =
      ap (decimal 0) (run_chars is_digit t at.0 (d ∷ cs) h ∙ ap (chars at.0) (taken d cs s)) ∙ decimal_value 0 at.0 (d ∷ ds) in
      cc (
        ne_eqb at.0 (at.0 + (wide d + size ds)) (omega (arith, wide_some d)),
        large_numeral v (range_of at (place (at.0 + size (d ∷ ds)))),
      )

-- a number that is right is answered as itself
pub right_value : (d : ℕ) (ds : List ℕ) → ok_number d ds ≡ true → numeral (value 0 (d ∷ ds)) ≡ Numeral.Within (value 0 (d ∷ ds))
unfolding ok_number
right_value d ds k = within_numeral (value 0 (d ∷ ds)) k

-- COUNTS
module _ (t : List ℕ) (f : Frame) where
  -- what a count comes to at a place, beside what the parser takes there
  pub record CountSame (at : TextPlace) (g : Got Width) (r : CountRead) : Type 0 where
    pub stands : Stands t r.at.0 g.rest
    pub clean : flawless r.flaw ≡ g.ok
    pub found : g.ok ≡ true → r.count ≡ count_of f.quote at.0 g.val

  number_count_lem : (at : TextPlace) (d : ℕ) (ds u : List ℕ) (x : Flaw) (e : TextPlace) → flawless x ≡ ok_number d ds → Stands t e.0 u →
      CountSame at (number_of d ds u) (number_count t (numeral (value 0 (d ∷ ds))) e x)
  unfolding number_of number_count pick
  number_count_lem at d ds [] x e k h =
      rw (consume_no t e 0x24 [] h refl) (record { stands = h; clean = k; found = λ z. ap Count.Fixed (right_value d ds z) })
  number_count_lem at d ds (c ∷ u) x e k h =
      case_b (eqb c 0x24)
      (λ l.
      rw (consume_yes t e 0x24 (c ∷ u) h l, l, number_of)
      (record { stands = past_ascii t e.0 0x24 c u (omega arith) h l; clean = k; found = λ z. ap Count.ByArgument (right_value d ds z) }))
      (λ l. rw (consume_no t e 0x24 (c ∷ u) h l, l, number_of) (record { stands = h; clean = k; found = λ z. ap Count.Fixed (right_value d ds z) }))

  name_count_lem : (at : TextPlace) (c : ℕ) (r u cs : List ℕ) → Stands t at.0 cs → Stands t (at.0 + size (c ∷ r)) u →
      CountSame at (name_of c r u cs) (name_after t f at (word_of t at c r))
  unfolding name_of word_of pick
  name_count_lem at c r [] cs h k =
      let e : TextPlace = place (at.0 + size (c ∷ r)) in
      let w = clean_pick (ok_word c r) (Flaw.Underscore (range_of at e)) refl in
      rw (not_empty at c r, consume_no t e 0x24 [] k refl) (record { stands = h; clean = w; found = λ z. refl })
  name_count_lem at c r (d ∷ u) cs h k =
      let e : TextPlace = place (at.0 + size (c ∷ r)) in
      let w = clean_pick (ok_word c r) (Flaw.Underscore (range_of at e)) refl in
      case_b (eqb d 0x24)
      (λ l.
      rw (not_empty at c r, consume_yes t e 0x24 (d ∷ u) k l, l, name_of)
      (record { stands = past_ascii t e.0 0x24 d u (omega arith) k l; clean = w; found = λ z. ap (Count.ByName (range_of at e)) (between t f at e (omega arith) (seen_in t e.0 k.0)) }))
      (λ l. rw (not_empty at c r, consume_no t e 0x24 (d ∷ u) k l, l, name_of) (record { stands = h; clean = w; found = λ z. refl }))

  no_count : (at : TextPlace) (cs : List ℕ) → Stands t at.0 cs → Stops is_digit cs → Stops is_start cs →
      count_read t f at ≡ counted Count.Implied at Flaw.Clean 0
  unfolding count_read name_count pick
  no_count at cs h d s = cc (number_none t at cs h d, word_none t at cs h s, empty at)

  pub count_same : (at : TextPlace) (cs : List ℕ) → Stands t at.0 cs → CountSame at (width_of cs) (count_read t f at)
  unfolding width_of count_read name_count number_at
  count_same at [] h = rw (no_count at [] h tt tt) (record { stands = h; clean = refl; found = λ z. refl })
  count_same at (c ∷ cs) h =
      case_b (is_digit c)
      (λ k.
      let ds : List ℕ = take_w is_digit cs in
      let e : TextPlace = place (at.0 + size (c ∷ ds)) in
      rw (number_some t at c cs h k, k, width_of)
      (number_count_lem at c ds (drop_w is_digit cs) (pick (ok_number c ds) Flaw.Clean (Flaw.TooLarge (range_of at e))) e
      (clean_pick (ok_number c ds) (Flaw.TooLarge (range_of at e)) refl) (past_word t at is_digit c cs h)))
      (λ k.
      case_b (is_start c)
      (λ l.
      rw (number_none t at (c ∷ cs) h k, word_some t at c cs h l, k, l, width_of)
      (name_count_lem at c (take_w is_continue cs) (drop_w is_continue cs) (c ∷ cs) h (past_word t at is_continue c cs h)))
      (λ l. rw (no_count at (c ∷ cs) h k l, k, l, width_of) (record { stands = h; clean = refl; found = λ z. refl })))
