-- A call whose text may be known beforehand, as one that arrived in parts is: the answer, and what the functions that decide it come to. Rests on Deciding.
use Rattle.std.specs.Prelude.{ℕ, ◌≤◌, ◌≡◌, false, List, eqb, length, Result, IfOk, OnOk}
use Rattle.utf8.specs.Choice.{pick}
use Rattle.utf8.specs.Chars.{chars_from}
use Rattle.utf8.specs.Utf8.{valid_prefix}
use Rattle.laws.specs.Deciding.{refused_as, open_by, counted_answer}
use Rattle.reading.specs.declared.Answer.{Answer}
use Rattle.reading.specs.declared.Request.{Request}
use Rattle.reading.specs.declared.Rooms.{Rooms}
use Rattle.answer.specs.Decisions.{Admitted, DoneBy}
use Rattle.answer.specs.Refusals.{answer_in}
use Rattle.answer.specs.declared.Asked.{Asked}
use Rattle.answer.specs.declared.Decision.{Decision}
use Rattle.answer.specs.declared.Readable.{Readable}
use Rattle.answer.specs.declared.Refusal.{Refusal}

-- nothing is known of the text
abbrev pub freshly : Request → Asked
freshly q = record { request = q; unfit = false; over = false; checked = false; valid = 0 }

-- up to where the text is UTF-8, as it is known or as it is
unfoldable pub valid_by : Asked → List ℕ → ℕ
valid_by a t = pick a.checked a.valid (valid_prefix t)

-- the answer before the text is read: 16, then 1 to 5, or 0 (R16.6)
unfoldable pub open_asked : Asked → List ℕ → List ℕ → Answer
open_asked a t s = pick a.unfit (refused_as 16 0) (open_by a.over (valid_by a t) t s a.request)

-- THE ANSWER: such a refusal, or what the counts say
unfoldable pub asked_answer : Asked → List ℕ → List ℕ → Rooms → Answer
asked_answer a t s r = let o = open_asked a t s in pick (eqb o.number 0) (counted_answer t s a.request r) o

-- what is decided before the text is read
pub record OpenedBy (t s : List ℕ) (a : Asked) (r : Result Readable Refusal) : Type 0 where
  pub answer : answer_in r ≡ open_asked a t s
  pub readable : IfOk r (Admitted t (length (chars_from t 0)) s a.request)
  pub short : OnOk r (length t ≤ 65535)

-- the decision
pub record DecidedBy (t s : List ℕ) (a : Asked) (r : Rooms) (d : Decision) : Type 0 where
  pub answer : d.answer ≡ asked_answer a t s r
  pub done : DoneBy t s a.request d
  pub short : d.answer.number ≡ 0 → length t ≤ 65535
