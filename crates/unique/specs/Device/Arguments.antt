-- All between the braces, and a whole placeholder, where codes stand: the reading finds nothing wrong exactly where the parser does, and
-- then what it finds is what the parser takes. Rests on Places and Specs.
use Rattle.std.specs.Prelude.{◌≡◌, refl, Bool, false, ◌&&◌, eqb, length}
use Rattle.std.proofs.Math.Path.{ap}
use Rattle.std.proofs.Common.{◌∙◌, arith}
use mathlib.Core.List.{List, [], ◌∷◌, ◌++◌, append-nil}
use Rattle.std.proofs.Math.Bool.{true, and-true}
use Prim.Native.Nat.{ℕ, ◌+◌, ◌≤◌, ◌<◌}
use Rattle.utf8.specs.Choice.{pick}
use Rattle.letters.specs.Questions.{is_space}
use Rattle.frame.specs.Places.{place}
use Rattle.frame.specs.declared.TextPlace.{TextPlace}
use Rattle.frame.specs.declared.Frame.{Frame}
use Rattle.frame.specs.declared.Mode.{Mode}
use Rattle.scan.specs.Characters.{spaces_past}
use Rattle.scan.specs.ScanLaws.{spaces_on}
use Rattle.placeholder.specs.Places.{place_read}
use Rattle.placeholder.specs.Specs.{no_spec, after_colon, spec_read}
use Rattle.placeholder.specs.Arguments.{resolved, argument_read}
use Rattle.placeholder.specs.declared.position.Found.{Found}
use Rattle.placeholder.specs.declared.position.PlaceRead.{PlaceRead}
use Rattle.placeholder.specs.declared.format.SpecRead.{SpecRead}
use Rattle.placeholder.specs.declared.between.ArgumentRead.{ArgumentRead}
use Rattle.reading.specs.Faults.{is_clean, argument_slots}
use Rattle.reading.specs.declared.Fault.{Fault}
use Rattle.grammar.specs.Grammar.{Position, next, number, word, Tail, bare, Inside, written_position}
use Rattle.grammar.specs.Pieces.{size, place_of, after_place, past_tail, past_position, past_inside}
use Rattle.unique.specs.Device.Runs.{case_b, take_w, Stops, take_drop, drop_stops, and_left, and_right}
use Rattle.unique.specs.Device.Parser.{Got, got, position_of, raw_at, spec_of, tail_of, past_position as afterPosition, inside_of}
use Rattle.unique.specs.Device.Made.{position_made, tail_made}
use Rattle.unique.specs.Device.Splits.{both, codes, position_split, tail_split}
use Rattle.unique.specs.Device.Stands.{Stands, part_place, spaces_left, spaces_none, consume_yes, consume_no, past_ascii}
use Rattle.unique.specs.Device.Words.{flawless}
use Rattle.unique.specs.Device.Places.{IsFound, position_same}
use Rattle.unique.specs.Device.Specs.{spec_same}

-- nothing of a list is wrong
unfoldable pub all_clean : List Fault → Bool
all_clean [] = true
all_clean (x ∷ xs) = is_clean x && all_clean xs

-- a place that was found, with its number
resolved_place : (p n : ℕ) (x : Position) (y : Found) → IsFound p x y → (resolved y n).place ≡ place_of p n x
resolved_place p n next y e = rw e
resolved_place p n (number d ds) y e = rw e
resolved_place p n (word c r) y e = rw e

resolved_next : (p n : ℕ) (x : Position) (y : Found) → IsFound p x y → (resolved y n).next ≡ past_position n x
resolved_next p n next y e = rw e
resolved_next p n (number d ds) y e = rw e
resolved_next p n (word c r) y e = rw e

module _ (t : List ℕ) (f : Frame) (m : Mode) where
  -- optionally a colon and a spec, and whitespace
  pub record TailSame (at : TextPlace) (n : ℕ) (g : Got Tail) (r : SpecRead) : Type 0 where
    pub stands : Stands t (spaces_past t r.at).0 g.rest
    pub clean : (flawless r.width && (flawless r.precision && flawless r.typetext)) ≡ g.ok
    pub next : r.next ≡ past_tail n g.val
    pub found : g.ok ≡ true → (spaces_past t r.at).0 < length t → r.spec ≡ after_place f.quote at.0 n g.val

  bare_same : (at : TextPlace) (n : ℕ) (cs : List ℕ) → Stands t at.0 cs → Stops is_space cs → TailSame at n (got bare cs true) (no_spec at n)
  bare_same at n cs h s = record { stands = spaces_none t at cs h s; clean = refl; next = refl; found = λ z l. refl }

  pub tail_same : (at : TextPlace) (n : ℕ) (cs : List ℕ) → Stands t at.0 cs → Stops is_space cs →
      TailSame at n (tail_of m cs) (spec_read t f m at n)
  unfolding tail_of spec_read pick
  tail_same at n [] h s = rw (consume_no t at 0x3A [] h refl) (bare_same at n [] h s)
  tail_same at n (c ∷ cs) h s =
      case_b (eqb c 0x3A)
      (λ k.
      let p : TextPlace = place (at.0 + 1) in
      let x = spec_same t f m at n cs (past_ascii t at.0 0x3A c cs (omega arith) h k) in
      let end : TextPlace = (after_colon t f m at p n).at in
      rw (consume_yes t at 0x3A (c ∷ cs) h k, k, tail_of)
      (record {
        stands = spaces_left t end (spec_of m cs).rest x.stands;
        clean = x.clean;
        next = x.next;
        found = λ z l. x.found z (omega (arith, spaces_on t end));
      }))
      (λ k. rw (consume_no t at 0x3A (c ∷ cs) h k, k, tail_of) (bare_same at n (c ∷ cs) h s))

  -- all between the braces, but for an `r#` name
  pub record InsideSame (at : TextPlace) (n : ℕ) (g : Got Inside) (r : ArgumentRead) : Type 0 where
    pub stands : Stands t (spaces_past t r.at).0 g.rest
    pub clean : all_clean (argument_slots r.flaws) ≡ g.ok
    pub next : g.ok ≡ true → r.next ≡ past_inside n g.val
    pub place : g.ok ≡ true → r.place ≡ place_of at.0 (past_tail n g.val.tail) g.val.position
    pub from : r.from ≡ at
    pub to : r.to.0 ≡ at.0 + size (written_position g.val.position g.val.space)
    pub on : r.to.0 ≤ (spaces_past t r.at).0
    pub spec : g.ok ≡ true → (spaces_past t r.at).0 < length t →
        r.spec ≡ after_place f.quote (at.0 + size (written_position g.val.position g.val.space)) n g.val.tail

  pub inside_same : (at : TextPlace) (n : ℕ) (cs : List ℕ) → Stands t at.0 cs → raw_at cs ≡ false →
      InsideSame at n (inside_of m cs) (argument_read t f m at n)
  unfolding inside_of argument_read argument_slots all_clean
  inside_same at n cs h raw =
      let po : PlaceRead = place_read t at in
      let to : TextPlace = spaces_past t po.at in
      let sp : SpecRead = spec_read t f m to n in
      let g : Got Position = position_of cs in
      let us : List ℕ = afterPosition cs in
      let y : Got Tail = tail_of m us in
      let s1 = position_same t at cs h raw in
      let s2 = spaces_left t po.at g.rest s1.stands in
      let s3 = tail_same to n us s2 (drop_stops is_space g.rest) in
      let q : written_position g.val (take_w is_space g.rest ++ us) ≡ cs = cc (take_drop is_space g.rest, (position_made cs).spelled) in
      let e : to.0 ≡ at.0 + size (written_position g.val (take_w is_space g.rest ++ [])) =
      part_place t at.0 to.0 (both (position_split g.val) (codes (take_w is_space g.rest))) cs us q h s2 in
      let d = e ∙ ap (λ l. at.0 + size (written_position g.val l)) (append-nil (take_w is_space g.rest)) in
      let left : (g.ok && y.ok) ≡ true → g.ok ≡ true = and_left g.ok y.ok in
      record {
        stands = s3.stands;
        clean = cc (s1.clean, s1.raw, s3.clean, and-true (flawless sp.typetext));
        next = λ z. resolved_next at.0 sp.next g.val po.found (s1.found (left z)) ∙ ap (λ k. past_position k g.val) s3.next;
        place = λ z. resolved_place at.0 sp.next g.val po.found (s1.found (left z)) ∙ ap (λ k. place_of at.0 k g.val) s3.next;
        from = refl;
        to = d;
        on = omega (arith, part_place t to.0 (spaces_past t sp.at).0 (tail_split y.val) us y.rest (tail_made m us).spelled s2 s3.stands);
        spec = λ z l. s3.found (and_right g.ok y.ok z) l ∙ ap (λ i. after_place f.quote i n y.val) d;
      }
