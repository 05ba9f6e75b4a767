-- The place of an argument, where codes stand: what the reading finds is what the parser takes, but for an `r#` name. Rests on Words.
use Rattle.std.specs.Prelude.{◌≡◌, Bool, ◌&&◌}
use Rattle.std.proofs.Math.Path.{refl, ap}
use Rattle.std.proofs.Common.{sym, ◌∙◌, true≢false, arith}
use mathlib.Core.List.{List, [], ◌∷◌, ◌++◌}
use Rattle.std.proofs.Math.Bool.{true, false, and-false}
use Prim.Native.Nat.{ℕ, ◌+◌}
use borrow.Author.Tests.{eqb-true, eq-eqb, ne_eqb}
use Rattle.std.proofs.Math.Dec.{eqb}
use Rattle.utf8.specs.Choice.{pick, within}
use Rattle.letters.specs.Questions.{is_start, is_continue}
use Rattle.letters.specs.QuestionLaws.{mark_no_continue}
use Rattle.frame.specs.Places.{place, range_of}
use Rattle.frame.specs.declared.TextPlace.{TextPlace}
use Rattle.frame.specs.declared.TextRange.{TextRange}
use Rattle.scan.specs.Words.{is_digit}
use Rattle.scan.specs.declared.Flaw.{Flaw}
use Rattle.scan.specs.declared.Numeral.{Numeral}
use Rattle.placeholder.specs.Places.{placed, is_r, raw_place, word_after, word_place, place_read}
use Rattle.placeholder.specs.declared.position.Found.{Found}
use Rattle.placeholder.specs.declared.position.PlaceRead.{PlaceRead}
use Rattle.grammar.specs.Grammar.{value, Position, next, number, word}
use Rattle.grammar.specs.Pieces.{wide, size, bytes_at}
use Rattle.unique.specs.Device.Runs.{case_b, take_w, drop_w, Stops, take_drop, and_left, and_right}
use Rattle.unique.specs.Device.Parser.{Got, got, ok_number, ok_word, position_of, hash_word, raw_at}
use Rattle.unique.specs.Device.Given.{r_start}
use Rattle.unique.specs.Device.Stands.{mark_wide, wide_some, Stands, take_none, stands_past, consume_yes, consume_no, past_ascii}
use Rattle.unique.specs.Device.Words.{flawless, clean_pick, empty, not_empty, word_none, word_of, word_some, number_none, number_at, number_some, right_value, past_word}

-- a place that was found is what is written at byte p
abbrev pub IsFound : ℕ → Position → Found → Type 0
IsFound p next x = x ≡ Found.Nothing
IsFound p (number d ds) x = x ≡ Found.Number (Numeral.Within (value 0 (d ∷ ds)))
IsFound p (word c r) x = x ≡ Found.Word (bytes_at p (c ∷ r))

-- no code
abbrev nil : List ℕ → Bool
nil [] = true
nil (c ∷ r) = false

module _ (t : List ℕ) where
  pub record PositionSame (at : TextPlace) (g : Got Position) (r : PlaceRead) : Type 0 where
    pub stands : Stands t r.at.0 g.rest
    pub clean : flawless r.flaw ≡ g.ok
    pub raw : flawless r.raw ≡ true
    pub found : g.ok ≡ true → IsFound at.0 g.val r.found

  -- the word `r`
  is_r_lem : (at : TextPlace) (c : ℕ) (cs r : List ℕ) → Stands t at.0 (c ∷ cs) →
      is_r t (range_of at (place (at.0 + size (c ∷ r)))) ≡ (eqb c 0x72 && nil r)
  unfolding is_r pick size
  is_r_lem at c cs r h =
      case_b (eqb c 0x72)
      (λ k. let w : wide c ≡ 1 = mark_wide c 0x72 (omega arith) k in rw (consume_yes t at 0x72 (c ∷ cs) h k, k) (ends r w))
      (λ k. cc (consume_no t at 0x72 (c ∷ cs) h k))
    where
      ends : (r : List ℕ) → wide c ≡ 1 → eqb (at.0 + 1) (at.0 + (wide c + size r)) ≡ nil r
      ends [] w = eq-eqb (at.0 + 1) (at.0 + (wide c + 0)) (omega arith)
      ends (d ∷ r) w = ne_eqb (at.0 + 1) (at.0 + (wide c + (wide d + size r))) (omega (arith, wide_some d))

  -- after it, `#` and a word, or not
  raw_not : (name : TextRange) (u : List ℕ) → Stands t name.end.0 u → hash_word u ≡ false →
      raw_place t name ≡ placed (Found.Word name) name.end Flaw.Clean Flaw.Clean
  unfolding raw_place hash_word pick
  raw_not name [] h k = cc (consume_no t name.end 0x23 [] h refl)
  raw_not name (x ∷ []) h k =
      case_b (eqb x 0x23)
      (λ l.
      let e : TextPlace = place (name.end.0 + 1) in
      let w = word_none t e [] (past_ascii t name.end.0 0x23 x [] (omega arith) h l) tt in
      rw (consume_yes t name.end 0x23 (x ∷ []) h l, w, empty e))
      (λ l. cc (consume_no t name.end 0x23 (x ∷ []) h l))
  raw_not name (x ∷ d ∷ v) h k =
      case_b (eqb x 0x23)
      (λ l.
      let e : TextPlace = place (name.end.0 + 1) in
      let s : is_start d ≡ false = cc in
      let w = word_none t e (d ∷ v) (past_ascii t name.end.0 0x23 x (d ∷ v) (omega arith) h l) s in
      rw (consume_yes t name.end 0x23 (x ∷ d ∷ v) h l, w, empty e))
      (λ l. cc (consume_no t name.end 0x23 (x ∷ d ∷ v) h l))

  raw_so : (name : TextRange) (u : List ℕ) → Stands t name.end.0 u → hash_word u ≡ true → flawless (raw_place t name).raw ≡ false
  unfolding raw_place hash_word word_of pick
  raw_so name [] h k = absurd (true≢false (sym k))
  raw_so name (x ∷ []) h k = absurd (true≢false (sym k))
  raw_so name (x ∷ d ∷ v) h k =
      let e : TextPlace = place (name.end.0 + 1) in
      let l = and_left (eqb x 0x23) (is_start d) k in
      let s = and_right (eqb x 0x23) (is_start d) k in
      let w = word_some t e d v (past_ascii t name.end.0 0x23 x (d ∷ v) (omega arith) h l) s in
      rw (consume_yes t name.end 0x23 (x ∷ d ∷ v) h l, w, not_empty e d (take_w is_continue v))

  -- a word that is no `r#` name
  plain_same : (at : TextPlace) (c : ℕ) (r u : List ℕ) → Stands t (at.0 + size (c ∷ r)) u →
      is_r t (range_of at (place (at.0 + size (c ∷ r)))) ≡ false →
      PositionSame at (got (word c r) u (ok_word c r)) (word_after t at (word_of t at c r))
  unfolding word_of pick
  plain_same at c r u k n =
      let w = clean_pick (ok_word c r) (Flaw.Underscore (range_of at (place (at.0 + size (c ∷ r))))) refl in
      rw (not_empty at c r, n) (record { stands = k; clean = w; raw = refl; found = λ z. refl })

  word_same : (at : TextPlace) (c : ℕ) (cs r u : List ℕ) → r ++ u ≡ cs → Stands t at.0 (c ∷ cs) → Stands t (at.0 + size (c ∷ r)) u →
      (eqb c 0x72 && hash_word cs) ≡ false →
      PositionSame at (got (word c r) u (ok_word c r)) (word_after t at (word_of t at c r))
  unfolding word_of pick ok_word
  word_same at c cs [] u q h k n =
      let name : TextRange = range_of at (place (at.0 + size (c ∷ []))) in
      let s = is_r_lem at c cs [] h in
      case_b (eqb c 0x72)
      (λ l.
      let x : is_r t name ≡ true = cc in
      let y : hash_word u ≡ false = cc in
      rw (not_empty at c [], x, raw_not name u k y) (record { stands = k; clean = rw (eqb-true c 0x72 l); raw = refl; found = λ z. refl }))
      (λ l. plain_same at c [] u k (cc))
  word_same at c cs (d ∷ r) u q h k n = plain_same at c (d ∷ r) u k (is_r_lem at c cs (d ∷ r) h ∙ and-false (eqb c 0x72))

  no_place : (at : TextPlace) (cs : List ℕ) → Stands t at.0 cs → Stops is_digit cs → Stops is_start cs →
      place_read t at ≡ placed Found.Nothing at Flaw.Clean Flaw.Clean
  unfolding place_read word_place pick
  no_place at cs h d s = cc (number_none t at cs h d, word_none t at cs h s, empty at)

  pub position_same : (at : TextPlace) (cs : List ℕ) → Stands t at.0 cs → raw_at cs ≡ false → PositionSame at (position_of cs) (place_read t at)
  unfolding position_of place_read word_place number_at raw_at
  position_same at [] h n = rw (no_place at [] h tt tt) (record { stands = h; clean = refl; raw = refl; found = λ z. refl })
  position_same at (c ∷ cs) h n =
      case_b (is_digit c)
      (λ k.
      let ds : List ℕ = take_w is_digit cs in
      let e : TextPlace = place (at.0 + size (c ∷ ds)) in
      rw (number_some t at c cs h k, k, position_of)
      (record {
        stands = past_word t at is_digit c cs h;
        clean = clean_pick (ok_number c ds) (Flaw.TooLarge (range_of at e)) refl;
        raw = refl;
        found = λ z. ap Found.Number (right_value c ds z);
      }))
      (λ k.
      case_b (is_start c)
      (λ l.
      rw (number_none t at (c ∷ cs) h k, word_some t at c cs h l, k, l, position_of)
      (word_same at c cs (take_w is_continue cs) (drop_w is_continue cs) (take_drop is_continue cs) h (past_word t at is_continue c cs h) n))
      (λ l. rw (no_place at (c ∷ cs) h k l, k, l, position_of) (record { stands = h; clean = refl; raw = refl; found = λ z. refl })))

  -- an `r#` name
  hash_stops : (cs : List ℕ) → hash_word cs ≡ true → Stops is_continue cs
  unfolding hash_word
  hash_stops [] k = tt
  hash_stops (x ∷ []) k = absurd (true≢false (sym k))
  hash_stops (x ∷ d ∷ v) k = rw (eqb-true x 0x23 (and_left (eqb x 0x23) (is_start d) k)) (mark_no_continue 0x23 tt)

  pub position_raw : (at : TextPlace) (cs : List ℕ) → Stands t at.0 cs → raw_at cs ≡ true → flawless (place_read t at).raw ≡ false
  unfolding place_read word_place word_of raw_at is_digit within pick
  position_raw at [] h n = absurd (true≢false (sym n))
  position_raw at (c ∷ cs) h n =
      let l = and_left (eqb c 0x72) (hash_word cs) n in
      let k = and_right (eqb c 0x72) (hash_word cs) n in
      let q = eqb-true c 0x72 l in
      let s : is_start c ≡ true = rw q r_start in
      let d : is_digit c ≡ false = rw q refl in
      let e : take_w is_continue cs ≡ [] = take_none is_continue cs (hash_stops cs k) in
      let name : TextRange = range_of at (place (at.0 + size (c ∷ []))) in
      let u : Stands t (at.0 + size (c ∷ [])) cs = stands_past t at.0 (c ∷ []) cs h in
      let x : is_r t name ≡ true = is_r_lem at c cs [] h ∙ rw l in
      rw (number_none t at (c ∷ cs) h d, word_some t at c cs h s, e, not_empty at c [], x) (raw_so name cs u k)
