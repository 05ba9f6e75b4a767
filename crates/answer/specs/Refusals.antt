-- The refusals by the rules' numbers. Rests on reading's Answers.
use Rattle.std.specs.Prelude.{ℕ, Result, Ok, Err}
use Rattle.reading.specs.Answers.{answered, no_counts}
use Rattle.laws.specs.Deciding.{refused_as}
use Rattle.reading.specs.declared.Answer.{Answer}
use Rattle.answer.specs.declared.Refusal.{Refusal}

-- the number of a refusal (R2.1 to R2.9, R16.6)
abbrev pub number_of : Refusal → ℕ
number_of Refusal.Unfit = 16
number_of Refusal.Mode = 1
number_of Refusal.Style = 2
number_of Refusal.Length = 3
number_of (Refusal.NotUtf8 valid) = 4
number_of Refusal.Newline = 5
number_of Refusal.Pieces = 6
number_of Refusal.Errors = 7
number_of Refusal.Places = 8
number_of Refusal.Lines = 9

-- "The place is the length of the longest valid prefix for 4, else 0." (R1.5)
abbrev pub place_of : Refusal → ℕ
place_of Refusal.Unfit = 0
place_of Refusal.Mode = 0
place_of Refusal.Style = 0
place_of Refusal.Length = 0
place_of (Refusal.NotUtf8 valid) = valid
place_of Refusal.Newline = 0
place_of Refusal.Pieces = 0
place_of Refusal.Errors = 0
place_of Refusal.Places = 0
place_of Refusal.Lines = 0

module _ {A : Type 0} where
  -- the answer before anything is counted: 0 where nothing is refused
  abbrev pub answer_in : Result A Refusal → Answer
  answer_in (Ok x) = answered 0 0 no_counts 0 0
  answer_in (Err e) = refused_as (number_of e) (place_of e)
