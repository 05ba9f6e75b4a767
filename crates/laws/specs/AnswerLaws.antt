-- What an answer of 0 says: the text and its frame are small, and each list has room. Rests on Deciding and the frame's laws.
use Rattle.std.specs.Prelude.{ℕ, ◌≤◌, ◌<◌, ◌≡◌, refl, Bool, true, false, List, eqb, leb, ltb, length, Option, Some, None}
use Rattle.std.proofs.Common.{◌∙◌, true≢false, arith, leb-true, ltb-false}
use Rattle.utf8.specs.Choice.{pick}
use Rattle.utf8.specs.ChoiceLaws.{pick_elim}
use Rattle.utf8.specs.Utf8.{valid_prefix}
use Rattle.frame.specs.Frames.{hashes_of}
use Rattle.frame.specs.FrameLaws.{frame_small}
use Rattle.frame.specs.Bounds.{Small}
use Rattle.reading.specs.Lists.{pieces, errors, places, lines, counts_of}
use Rattle.reading.specs.declared.Counts.{Counts}
use Rattle.reading.specs.Answers.{is_styled, style_of, is_long, is_broken, lacks_newline, frame_for, mode_for, answer_of}
use Rattle.laws.specs.Deciding.{refused_as, room_for, counted_answer, open_answer, answer_decided, answer_passed}
use Rattle.reading.specs.declared.Request.{Request}
use Rattle.reading.specs.declared.Rooms.{Rooms}
use Rattle.reading.specs.declared.Answer.{Answer}

-- a frame's style has at most 255 hashes
style_few : (h : Option ℕ) → hashes_of (style_of h) ≤ 255
style_few None = omega arith
style_few (Some h) =
    pick_elim (λ (x : Option ℕ). hashes_of x ≤ 255) (leb h 255) (λ e. leb-true h 255 e) (λ _. omega arith)

-- a text within the limit has a small frame
pub small_frame : (t s : List ℕ) (q : Request) → length t ≤ 65535 → Small t (frame_for t s q)
unfolding frame_for
small_frame t s q short = frame_small t s (style_of q.style) q.given q.newline short (style_few q.style)

-- a text that is not too long is within the limit
pub not_long : (t : List ℕ) (given : Bool) (s : List ℕ) → is_long t given s ≡ false → length t ≤ 65535
unfolding is_long
not_long t given s =
    pick_elim (λ (b : Bool). b ≡ false → length t ≤ 65535) (ltb 65535 (length t)) (λ _ e. absurd (true≢false e))
    (λ n _. ltb-false 65535 (length t) n)

-- a choice of numbers that comes to 0, and whose first is not 0, is the second
falls_through : (b : Bool) (n k : ℕ) → 0 < n → pick b n k ≡ 0 → (b ≡ false) × (k ≡ 0)
unfolding pick
falls_through true n k h e = absurd (omega arith)
falls_through false n k h e = (refl, e)

-- each list of a reading has room
pub record Roomy (c : Counts) (r : Rooms) : Type 0 where
  pub pieces : c.pieces ≤ r.pieces
  pub errors : c.errors ≤ r.errors
  pub places : c.places ≤ r.places
  pub lines : c.lines ≤ r.lines

-- where no list is too small
pub room_enough : (c : Counts) (r : Rooms) → room_for c r ≡ 0 → Roomy c r
unfolding room_for
room_enough c r e =
    let p = falls_through _ 6 _ (omega arith) e in
    let x = falls_through _ 7 _ (omega arith) p.1 in
    let l = falls_through _ 8 _ (omega arith) x.1 in
    let n = falls_through _ 9 _ (omega arith) l.1 in
    record {
      pieces = ltb-false _ _ p.0;
      errors = ltb-false _ _ x.0;
      places = ltb-false _ _ l.0;
      lines = ltb-false _ _ n.0;
    }

-- what an answer of 0 says: the text and its frame are small, and each list has room for its records
pub record Done (t s : List ℕ) (q : Request) (r : Rooms) : Type 0 where
  pub short : length t ≤ 65535
  pub small : Small t (frame_for t s q)
  pub pieces : length (pieces t (frame_for t s q) (mode_for q)) ≤ r.pieces
  pub errors : length (errors t (frame_for t s q) (mode_for q)) ≤ r.errors
  pub places : length (places t (frame_for t s q) (mode_for q)) ≤ r.places
  pub lines : length (lines t (frame_for t s q) (mode_for q)) ≤ r.lines

module _ (t s : List ℕ) (q : Request) (r : Rooms) where
  -- an answer of 0 says so
  pub answer_done : (answer_of t s q r).number ≡ 0 → Done t s q r
  unfolding counts_of
  answer_done e =
      let passed = answer_passed t s q r e in
      let short = not_long t q.given s passed.short in
      let room = room_enough (counts_of t (frame_for t s q) (mode_for q)) r passed.room in
      record {
        short = short;
        small = small_frame t s q short;
        pieces = room.pieces;
        errors = room.errors;
        places = room.places;
        lines = room.lines;
      }

  -- without a refusal before the text is read the answer is that of the counts, else it is that refusal
  pub answer_open : answer_of t s q r ≡ pick (eqb (open_answer t s q).number 0) (counted_answer t s q r) (open_answer t s q)
  unfolding open_answer pick
  answer_open =
      answer_decided t s q r ∙
      go (ltb 2 q.mode) (is_styled q.style q.given) (is_long t q.given s) (is_broken t) (lacks_newline t q.newline)
    where
      a : Answer
      a = counted_answer t s q r

      refusals : (mode style long broken newline : Bool) → Answer → Answer
      refusals mode style long broken newline x =
          pick mode (refused_as 1 0)
          (pick style
          (pick long (refused_as 3 0) (pick broken (refused_as 4 (valid_prefix t)) (pick newline (refused_as 5 0) x)))
          (refused_as 2 0))

      go : (mode style long broken newline : Bool) →
          let k = refusals mode style long broken newline in
          let z = k (refused_as 0 0) in
          k a ≡ pick (eqb z.number 0) a z
      go true style long broken newline = refl
      go false false long broken newline = refl
      go false true true broken newline = refl
      go false true false true newline = refl
      go false true false false true = refl
      go false true false false false = refl
