-- What the functions that decide a call come to, part by part. Rests on reading's Answers and on Refusals.
use Rattle.std.specs.Prelude.{ℕ, ◌≤◌, ◌≡◌, List, length, Result, IfOk, OnOk, MatchOption}
use Rattle.reading.specs.Answers.{no_counts, answered, frame_for, mode_for, answer_of}
use Rattle.laws.specs.Deciding.{late_answer, open_answer, counted_by}
use Rattle.utf8.specs.Chars.{chars_from}
use Rattle.utf8.specs.declared.Checked.{Checked}
use Rattle.reading.specs.declared.Request.{Request}
use Rattle.reading.specs.declared.Rooms.{Rooms}
use Rattle.answer.specs.Refusals.{answer_in}
use Rattle.answer.specs.declared.Decision.{Decision}
use Rattle.answer.specs.declared.Readable.{Readable}
use Rattle.answer.specs.declared.Refusal.{Refusal}

-- what no refusal before the text is read leaves: the frame and the mode of the call, and the characters that it is said to have
pub record Admitted (t : List ℕ) (n : ℕ) (s : List ℕ) (q : Request) (x : Readable) : Type 0 where
  pub frame : x.frame ≡ frame_for t s q
  pub mode : x.mode ≡ mode_for q
  pub chars : x.chars ≡ n

-- what is decided from how far a check came: the answer, and where nothing is refused the frame, the mode and the characters
pub record Late (t : List ℕ) (c : Checked) (s : List ℕ) (q : Request) (r : Result Readable Refusal) : Type 0 where
  pub answer : answer_in r ≡ late_answer c.valid t q (answered 0 0 no_counts 0 0)
  pub readable : IfOk r (Admitted t c.chars s q)

-- what is decided before the text is read: the answer, and where nothing is refused the frame, the mode and the characters, and that the text is within the limit
pub record Opened (t s : List ℕ) (q : Request) (r : Result Readable Refusal) : Type 0 where
  pub answer : answer_in r ≡ open_answer t s q
  pub readable : IfOk r (Admitted t (length (chars_from t 0)) s q)
  pub short : OnOk r (length t ≤ 65535)

-- a decision holds the frame and the mode that lists are filled by, and the characters, exactly where its answer is 0
abbrev pub DoneBy : List ℕ → List ℕ → Request → Decision → Type 0
DoneBy t s q d = MatchOption d.done (¬ (d.answer.number ≡ 0)) (λ x. (d.answer.number ≡ 0) × Admitted t (length (chars_from t 0)) s q x)

-- a text that is read is done where its counts leave room in each list
pub record CountedBy (t : List ℕ) (x : Readable) (r : Rooms) (d : Decision) : Type 0 where
  pub answer : d.answer ≡ counted_by t x.frame x.mode r
  pub done : MatchOption d.done (¬ (d.answer.number ≡ 0)) (λ y. (d.answer.number ≡ 0) × (y ≡ x))

-- the decision: the answer, and where it is 0 the frame, the mode and the characters
pub record Decided (t s : List ℕ) (q : Request) (r : Rooms) (d : Decision) : Type 0 where
  pub answer : d.answer ≡ answer_of t s q r
  pub done : DoneBy t s q d
