-- The answer as it is decided, a refusal after the other: those before the text is read, then those of the lists' room; and that this is
-- the answer. Rests on Answers.
use Rattle.std.specs.Prelude.{ℕ, ◌≡◌, refl, Bool, true, false, not, List, [], ◌∷◌, eqb, ltb, length}
use Rattle.std.proofs.Common.{sym, ap, ◌∙◌, arith}
use Rattle.utf8.specs.Choice.{pick, either}
use Rattle.utf8.specs.Utf8.{valid_prefix}
use Rattle.frame.specs.declared.Frame.{Frame}
use Rattle.frame.specs.declared.Mode.{Mode}
use Rattle.reading.specs.Lists.{pieces, counts_of}
use Rattle.reading.specs.Moves.{moves}
use Rattle.reading.specs.Wants.{wants}
use Rattle.reading.specs.Answers.{no_counts, answered, is_styled, is_long, is_broken, lacks_newline, frame_for, mode_for, refusal, first_of, answer_by, answer_of}
use Rattle.reading.specs.declared.Counts.{Counts}
use Rattle.reading.specs.declared.Request.{Request}
use Rattle.reading.specs.declared.Rooms.{Rooms}
use Rattle.reading.specs.declared.Answer.{Answer}

-- a refusal before anything is read
abbrev pub refused_as : ℕ → ℕ → Answer
refused_as number at = answered number at no_counts 0 0

-- 6 to 9, or 0
unfoldable pub room_for : Counts → Rooms → ℕ
room_for c r =
    pick (ltb r.pieces c.pieces) 6
    (pick (ltb r.errors c.errors) 7
    (pick (ltb r.places c.places) 8
    (pick (ltb r.lines c.lines) 9
    0)))

-- records that are counted, and arguments and moves that are said where all have room
abbrev pub counted_as : Counts → ℕ → ℕ → ℕ → Answer
counted_as c w v number = answered number 0 c (pick (eqb number 0) w 0) (pick (eqb number 0) v 0)

-- a text that is read: done, or a list without room
abbrev pub counted_by : List ℕ → Frame → Mode → Rooms → Answer
counted_by t f m r = let c = counts_of t f m in counted_as c (wants (pieces t f m)) (moves t f m) (room_for c r)

unfoldable pub counted_answer : List ℕ → List ℕ → Request → Rooms → Answer
counted_answer t s q r = counted_by t (frame_for t s q) (mode_for q) r

-- refusals 1 to 5, and what is answered where there is none
abbrev pub unless_refused : List ℕ → List ℕ → Request → Answer → Answer
unless_refused t s q a =
    pick (ltb 2 q.mode) (refused_as 1 0)
    (pick (is_styled q.style q.given)
    (pick (is_long t q.given s) (refused_as 3 0)
    (pick (is_broken t) (refused_as 4 (valid_prefix t))
    (pick (lacks_newline t q.newline) (refused_as 5 0)
    a)))
    (refused_as 2 0))

-- the answer before the text is read: such a refusal, or 0
unfoldable pub open_answer : List ℕ → List ℕ → Request → Answer
open_answer t s q = unless_refused t s q (answered 0 0 no_counts 0 0)

-- REFUSALS 1 TO 3, or 0: those that need no look at the text's bytes. `over`: more was handed over than the text, and passed the limit
unfoldable pub early_number : Bool → List ℕ → List ℕ → Request → ℕ
early_number over t s q =
    pick (ltb 2 q.mode) 1 (pick (is_styled q.style q.given) (pick (either over (is_long t q.given s)) 3 0) 2)

-- REFUSALS 4 AND 5 of a text that is UTF-8 up to a place, and what is answered where there is none
unfoldable pub late_answer : ℕ → List ℕ → Request → Answer → Answer
late_answer valid t q a =
    pick (ltb valid (length t)) (refused_as 4 valid) (pick (lacks_newline t q.newline) (refused_as 5 0) a)

-- the answer before the text is read, from these two
abbrev pub open_by : Bool → ℕ → List ℕ → List ℕ → Request → Answer
open_by over valid t s q =
    let early = early_number over t s q in
    pick (eqb early 0) (late_answer valid t q (answered 0 0 no_counts 0 0)) (refused_as early 0)

early_late : (mode styled long broken lacks : Bool) (valid : ℕ) (a : Answer) →
    pick mode (refused_as 1 0)
    (pick styled
    (pick long (refused_as 3 0) (pick broken (refused_as 4 valid) (pick lacks (refused_as 5 0) a)))
    (refused_as 2 0)) ≡
    let early = pick mode 1 (pick styled (pick (either false long) 3 0) 2) in
    pick (eqb early 0) (pick broken (refused_as 4 valid) (pick lacks (refused_as 5 0) a)) (refused_as early 0)
unfolding pick
early_late true styled long broken lacks valid a = refl
early_late false false long broken lacks valid a = refl
early_late false true true broken lacks valid a = refl
early_late false true false broken lacks valid a = refl

pub open_by_lem : (t s : List ℕ) (q : Request) → open_answer t s q ≡ open_by false (valid_prefix t) t s q
unfolding open_answer early_number late_answer is_broken
open_by_lem t s q = early_late _ _ _ _ _ _ _

-- where there is no early refusal the text is not too long
not_early : (mode styled long : Bool) → ◌≡◌ {A = ℕ} (pick mode 1 (pick styled (pick long 3 0) 2)) 0 → long ≡ false
unfolding pick
not_early true styled long e = absurd (omega arith)
not_early false false long e = absurd (omega arith)
not_early false true true e = absurd (omega arith)
not_early false true false e = refl

pub early_short : (over : Bool) (t s : List ℕ) (q : Request) → early_number over t s q ≡ 0 → either over (is_long t q.given s) ≡ false
unfolding early_number
early_short over t s q e = not_early _ _ _ e

-- the order of the tests, whatever they say
in_order : (mode styled long broken lacks p e a l : Bool) (prefix : ℕ) (c : Counts) (w v : ℕ) →
    answer_by
    (first_of
    (refusal 1 mode ∷
    refusal 2 (not styled) ∷
    refusal 3 long ∷
    refusal 4 broken ∷
    refusal 5 lacks ∷
    refusal 6 p ∷
    refusal 7 e ∷
    refusal 8 a ∷
    refusal 9 l ∷
    [])) prefix c w v ≡
    pick mode (refused_as 1 0)
    (pick styled
    (pick long (refused_as 3 0)
    (pick broken (refused_as 4 prefix)
    (pick lacks (refused_as 5 0)
    (counted_as c w v (pick p 6 (pick e 7 (pick a 8 (pick l 9 0))))))))
    (refused_as 2 0))
unfolding pick first_of answer_by
in_order true styled long broken lacks p e a l prefix c w v = refl
in_order false false long broken lacks p e a l prefix c w v = refl
in_order false true true broken lacks p e a l prefix c w v = refl
in_order false true false true lacks p e a l prefix c w v = refl
in_order false true false false true p e a l prefix c w v = refl
in_order false true false false false true e a l prefix c w v = refl
in_order false true false false false false true a l prefix c w v = refl
in_order false true false false false false false true l prefix c w v = refl
in_order false true false false false false false false true prefix c w v = refl
in_order false true false false false false false false false prefix c w v = refl

-- THE ANSWER AS IT IS DECIDED
pub answer_decided : (t s : List ℕ) (q : Request) (r : Rooms) → answer_of t s q r ≡ unless_refused t s q (counted_answer t s q r)
unfolding answer_of counted_answer room_for
answer_decided t s q r = in_order _ _ _ _ _ _ _ _ _ _ _ _ _

-- WHAT AN ANSWER OF 0 SAYS: the text is within the limit and UTF-8, no list is too short, and the counts, the arguments and the moves are the reading's
pub record Passed (t s : List ℕ) (q : Request) (r : Rooms) : Type 0 where
  pub short : is_long t q.given s ≡ false
  pub whole : is_broken t ≡ false
  pub room : room_for (counts_of t (frame_for t s q) (mode_for q)) r ≡ 0
  pub counts : (answer_of t s q r).counts ≡ counts_of t (frame_for t s q) (mode_for q)
  pub arguments : (answer_of t s q r).arguments ≡ wants (pieces t (frame_for t s q) (mode_for q))
  pub moves : (answer_of t s q r).moves ≡ moves t (frame_for t s q) (mode_for q)

-- where no test holds it is what is answered then
none_held : (mode styled long broken lacks : Bool) (prefix : ℕ) (a : Answer) →
    let x =
    pick mode (refused_as 1 0)
    (pick styled
    (pick long (refused_as 3 0) (pick broken (refused_as 4 prefix) (pick lacks (refused_as 5 0) a)))
    (refused_as 2 0))
    in
    x.number ≡ 0 → (long ≡ false) × ((broken ≡ false) × (x ≡ a))
unfolding pick
none_held true styled long broken lacks prefix a e = absurd (omega arith)
none_held false false long broken lacks prefix a e = absurd (omega arith)
none_held false true true broken lacks prefix a e = absurd (omega arith)
none_held false true false true lacks prefix a e = absurd (omega arith)
none_held false true false false true prefix a e = absurd (omega arith)
none_held false true false false false prefix a e = (refl, (refl, refl))

-- of 0 a figure is said
said_done : (w : ℕ) {n : ℕ} → n ≡ 0 → pick (eqb n 0) w 0 ≡ w
unfolding pick
said_done w e = rw e

pub answer_passed : (t s : List ℕ) (q : Request) (r : Rooms) → (answer_of t s q r).number ≡ 0 → Passed t s q r
unfolding counted_answer
answer_passed t s q r e =
    let d = answer_decided t s q r in
    let k = none_held _ _ _ _ _ _ _ (ap (λ (a : Answer). a.number) (sym d) ∙ e) in
    let room : room_for (counts_of t (frame_for t s q) (mode_for q)) r ≡ 0 = ap (λ (a : Answer). a.number) (sym (d ∙ k.1.1)) ∙ e in
    record {
      short = k.0;
      whole = k.1.0;
      room = room;
      counts = ap (λ (a : Answer). a.counts) (d ∙ k.1.1);
      arguments = ap (λ (a : Answer). a.arguments) (d ∙ k.1.1) ∙ said_done _ room;
      moves = ap (λ (a : Answer). a.moves) (d ∙ k.1.1) ∙ said_done _ room;
    }
