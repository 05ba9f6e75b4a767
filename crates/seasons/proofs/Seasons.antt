-- THE PAGE OF THE SEASON'S COUNT: a list is read one way only, so bytes come to one thing; the totals are the sums, line by line; and of the
-- refusals of a reading none but 4 arises. The words' definitions are Totals and Season; the work is in SeasonLaws, TotalLaws and FewLaws.
use Rattle.std.specs.Prelude.{◌≡◌, Bool, ℕ, ◌+◌, ◌≤◌, ◌<◌, get_or, drop}
use Rattle.std.proofs.Math.Path.{refl, ap}
use Rattle.std.proofs.Common.{sym, ◌∙◌, inl, inr, arith}
use Rattle.std.proofs.Math.Bool.{true, false}
use mathlib.Core.List.{List, [], ◌∷◌}
use borrow.Author.Tests.{le-ltb}
use Rattle.std.proofs.Math.ListN.{length}
use Rattle.utf8.specs.Choice.{pick}
use Rattle.utf8.specs.Utf8.{valid_prefix}
use Rattle.frame.specs.Frames.{frame_of, is_literal}
use Rattle.reading.specs.Lists.{pieces, errors, places, lines, counts_of}
use Rattle.reading.specs.Answers.{is_long, is_broken, lacks_newline, frame_for, mode_for, answer_of}
use Rattle.reading.specs.declared.Answer.{Answer}
use Rattle.reading.specs.declared.Rooms.{Rooms}
use Rattle.laws.specs.Deciding.{refused_as, room_for, counted_answer, answer_decided}
use Rattle.laws.specs.ListLaws.{no_places, no_lines}
use Rattle.laws.specs.RoomLaws.{few_pieces, few_errors}
use Rattle.seasons.specs.Totals.{counted_in, times, own, plain, sums}
use Rattle.seasons.specs.TotalLaws.{tallied_line, plus_line, own_length, sums_length}
use Rattle.seasons.proofs.FewLaws.{sums_few}
use Rattle.seasons.specs.Season.{IsList, Counted}
use Rattle.seasons.proofs.SeasonLaws.{two_one, only_rest, list_rest}
use Rattle.seasons.specs.declared.Season.{Season}

-- A LIST IS READ ONE WAY ONLY
pub only_list : (bytes : List ℕ) (ts us : List (List ℕ)) → IsList bytes ts → IsList bytes us → ts ≡ us
only_list bytes ts us a b =
    let p = list_rest bytes ts a in
    let q = list_rest bytes us b in
    let n : length ts ≡ length us = two_one (length ts) (length us) (p.0 ∙ sym q.0) in
    only_rest (length ts) (drop 2 bytes) ts us p.1 (rw n q.1)

-- so bytes come to one thing only
pub one_answer : (bytes : List ℕ) (r s : Season) → Counted bytes r → Counted bytes s → (r.number ≡ s.number) × (r.totals ≡ s.totals)
one_answer bytes r s (inl (ts, a)) (inl (us, b)) =
    (a.number ∙ sym b.number, a.totals ∙ ap sums (only_list bytes ts us a.list b.list) ∙ sym b.totals)
one_answer bytes r s (inl (ts, a)) (inr b) = absurd (b.none ts a.list)
one_answer bytes r s (inr a) (inl (us, b)) = absurd (a.none us b.list)
one_answer bytes r s (inr a) (inr b) = (a.number ∙ sym b.number, a.totals ∙ sym b.totals)

-- THE TOTALS ARE THE SUMS: each line of a list's is the first text's own and that of the others
pub line_by_line : (t : List ℕ) (ts : List (List ℕ)) (i : ℕ) → get_or (sums (t ∷ ts)) i 0 ≡ get_or (own t) i 0 + get_or (sums ts) i 0
unfolding sums
line_by_line t ts i = plus_line (own t) (sums ts) i (own_length t ∙ sym (sums_length ts))

-- and a text's own is how often it counts in that line
pub own_line : (t : List ℕ) (i : ℕ) → i < 24 → get_or (own t) i 0 ≡ times i (counted_in t)
unfolding own
own_line t i h = let e : 0 + i ≡ i = omega arith in rw e at (tallied_line 0 24 i (counted_in t) h)

-- NO TOTAL OVERFLOWS: in a list none is above 2,621,440,000
pub no_overflow : (bytes : List ℕ) (ts : List (List ℕ)) → IsList bytes ts → (i : ℕ) → get_or (sums ts) i 0 ≤ 2621440000
no_overflow bytes ts h i = omega (arith, h.few, sums_few ts h.short i)

-- "REFUSALS 6 TO 9 NEVER ARISE", nor any but 4, where two lists have a record for each byte; the others need none
module _ (t : List ℕ) (short : length t ≤ 65535) (r : Rooms) (some : length t ≤ r.pieces) (more : length t ≤ r.errors) where
  no_refusal : (counted_answer t [] plain r).number ≡ 0
  unfolding counted_answer room_for counts_of frame_for frame_of is_literal pick
  no_refusal =
      let f = frame_for t [] plain in
      let m = mode_for plain in
      let p = no_places t f m refl in
      let l = no_lines t f m refl in
      let nowhere : length (places t f m) ≡ 0 = rw p in
      let unlined : length (lines t f m) ≡ 0 = rw l in
      rw (
        le-ltb r.pieces (length (pieces t f m)) (omega (arith, some, few_pieces t f m)),
        le-ltb r.errors (length (errors t f m)) (omega (arith, more, few_errors t f m)),
        le-ltb r.places (length (places t f m)) (omega (arith, nowhere)),
        le-ltb r.lines (length (lines t f m)) (omega (arith, unlined)),
      )

  pub never_refused : (answer_of t [] plain r).number ≡ pick (is_broken t) 4 0
  unfolding is_long lacks_newline pick
  never_refused =
      ap (λ (a : Answer). a.number) (answer_decided t [] plain r) ∙
      rw (le-ltb 65535 (length t) short) (go (is_broken t))
    where
      go : (b : Bool) → (pick b (refused_as 4 (valid_prefix t)) (counted_answer t [] plain r)).number ≡ pick b 4 0
      go true = refl
      go false = no_refusal
