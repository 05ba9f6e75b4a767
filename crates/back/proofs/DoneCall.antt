-- What a caller reads back from the numbers of a done call: its frame is in bounds, so all that CallBack says. It stands apart from `reading_back`, so
-- that the edit of its bound is read.
use Rattle.std.specs.Prelude.{ℕ, ◌-◌, ◌≤◌, ◌≡◌}
use Rattle.std.proofs.Common.{sym, ◌∙◌, true≢false, arith}
use Rattle.std.proofs.Math.Bool.{Bool, true, false}
use mathlib.Core.List.{List}
use borrow.Author.Tests.{ltb-false}
use Rattle.std.proofs.Math.ListN.{length, length-take}
use Rattle.utf8.specs.ChoiceLaws.{pick_elim}
use Rattle.frame.specs.Frames.{body, end_of, frame_of}
use Rattle.reading.specs.Lists.{pieces, errors}
use Rattle.reading.specs.Answers.{is_long, frame_for, mode_for, answer_of}
use Rattle.laws.specs.Deciding.{answer_passed}
use Rattle.laws.specs.AnswerLaws.{small_frame, not_long}
use Rattle.reading.specs.declared.Request.{Request}
use Rattle.reading.specs.declared.Rooms.{Rooms}
use Rattle.back.specs.Back.{Below}
use Rattle.back.proofs.CallBack.{CallBack, reading_back}

module _ (t s : List ℕ) where
  -- a snippet that is given and not too long is within the limit
  snippet_short : (given : Bool) → is_long t given s ≡ false → given ≡ true → length s ≤ 66048
  unfolding is_long
  snippet_short given =
      let P : Bool → Type 0 = λ b. b ≡ false → given ≡ true → length s ≤ 66048 in
      pick_elim P _ (λ _ e. absurd (true≢false e))
      (λ _. pick_elim P _ (λ _ e _. ltb-false 66048 (length s) e) (λ n _ g. absurd (true≢false (sym g ∙ n))))

  -- the text less an appended newline is no longer
  body_short : (newline : Bool) → length (body t newline) ≤ length t
  unfolding body
  body_short newline =
      pick_elim (λ (l : List ℕ). length l ≤ length t) newline (λ _. omega (arith, length-take (length t - 1) t)) (λ _. omega arith)

  module _ (q : Request) where
    -- so "end" is in bounds
    end_below : is_long t q.given s ≡ false → Below (frame_for t s q).end.0
    unfolding frame_for frame_of end_of
    end_below e =
        pick_elim Below q.given
        (λ g.
        let short = snippet_short q.given e g in
        pick_elim Below _ (λ _. omega arith) (λ _. omega arith))
        (λ _. omega (arith, body_short q.newline, not_long t q.given s e))

-- THE THEOREM
pub call_back : (t s : List ℕ) (q : Request) (r : Rooms) → (answer_of t s q r).number ≡ 0 →
    CallBack (pieces t (frame_for t s q) (mode_for q)) (errors t (frame_for t s q) (mode_for q))
call_back t s q r z =
    let short = (answer_passed t s q r z).short in
    reading_back t (frame_for t s q) (mode_for q) (small_frame t s q (not_long t q.given s short)) (end_below t s q short)
