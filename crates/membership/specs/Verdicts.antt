-- THE VERDICT on a call: a refusal, or the first broken rule and its piece, or yes. Rests on Members, and on the refusals of a reading.
use Rattle.std.specs.Prelude.{Bool, not, List, [], ◌∷◌, ℕ, suc, eqb, ltb, length}
use Rattle.utf8.specs.Choice.{pick}
use Rattle.utf8.specs.Utf8.{valid_prefix}
use Rattle.frame.specs.declared.Frame.{Frame}
use Rattle.frame.specs.declared.Mode.{Mode}
use Rattle.reading.specs.Lists.{errors}
use Rattle.reading.specs.Answers.{is_styled, is_long, is_broken, lacks_newline, frame_for, Refusal, refusal, first_of}
use Rattle.reading.specs.declared.Piece.{Piece}
use Rattle.reading.specs.declared.Request.{Request}
use Rattle.membership.specs.Members.{number, date, is_unnamed, takes, is_called, format_pieces}
use Rattle.membership.specs.declared.Verdict.{Verdict}

-- the first piece of a sort; where there is none, how many pieces there are
unfoldable pub first_where : (Piece → Bool) → List Piece → ℕ
first_where sort [] = 0
first_where sort (x ∷ xs) = pick (sort x) 0 (suc (first_where sort xs))

-- the second, likewise
unfoldable pub second_where : (Piece → Bool) → List Piece → ℕ
second_where sort [] = 0
second_where sort (x ∷ xs) = suc (pick (sort x) (first_where sort xs) (second_where sort xs))

-- rules 2 to 5, the first that is broken (R13.6)
unfoldable pub pieces_verdict : List ℕ → List Piece → Verdict
pieces_verdict t ps =
    let n = length ps in
    let unnamed = first_where is_unnamed ps in
    let taken = first_where takes ps in
    let once = first_where (is_called t number) ps in
    let again = second_where (is_called t number) ps in
    let early = first_where (is_called t date) ps in
    pick (ltb unnamed n) (Verdict.Broken 2 unnamed)
    (pick (ltb taken n) (Verdict.Broken 3 taken)
    (pick (eqb once n) (Verdict.Broken 4 n)
    (pick (ltb again n) (Verdict.Broken 4 again)
    (pick (ltb early once) (Verdict.Broken 5 early)
    Verdict.Yes))))

-- rule 1 before them: "0 for the error rule" (R13.6)
unfoldable pub text_verdict : List ℕ → Frame → Verdict
text_verdict t f = pick (eqb (length (errors t f Mode.Format)) 0) (pieces_verdict t (format_pieces t f)) (Verdict.Broken 1 0)

-- THE REFUSALS, checked in this order: "1 to 5; mode 1 or 2 is refused as 17 after 1" (R13.7)
abbrev pub refusals : List ℕ → List ℕ → Request → List Refusal
refusals t s q =
    refusal 1 (ltb 2 q.mode) ∷
    refusal 17 (not (eqb q.mode 0)) ∷
    refusal 2 (not (is_styled q.style q.given)) ∷
    refusal 3 (is_long t q.given s) ∷
    refusal 4 (is_broken t) ∷
    refusal 5 (lacks_newline t q.newline) ∷
    []

-- the number of the first that holds, or 0 where the call is not refused
unfoldable pub refused_as : List ℕ → List ℕ → Request → ℕ
refused_as t s q = first_of (refusals t s q)

-- THE VERDICT; the place of a refusal is that of the reader's (R13.7)
unfoldable pub judged_of : List ℕ → List ℕ → Request → Verdict
judged_of t s q =
    let n = refused_as t s q in
    pick (eqb n 0) (text_verdict t (frame_for t s q)) (Verdict.Refused n (pick (eqb n 4) (valid_prefix t) 0))
