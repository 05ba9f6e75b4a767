-- HOW MANY MOVES A READING TAKES AT MOST: "is never more than twice the number of characters in the text", for any bytes, and of every
-- answer. Rests on Strides and on Moves and Answers; StrideLaws says why.
use Rattle.std.specs.Prelude.{ℕ, ◌*◌, ◌≤◌, ◌≡◌, List}
use Rattle.std.proofs.Common.{le_trans, arith}
use Rattle.frame.specs.declared.Frame.{Frame}
use Rattle.frame.specs.declared.Mode.{Mode}
use Rattle.reading.specs.Moves.{moves}
use Rattle.reading.specs.Answers.{mode_for, answer_of}
use Rattle.reading.specs.declared.Request.{Request}
use Rattle.reading.specs.declared.Rooms.{Rooms}
use Rattle.strides.specs.Strides.{characters, times}
use Rattle.strides.proofs.StrideLaws.{mode_bound, times_few, answer_bound, answer_none}

module _ (t : List ℕ) (f : Frame) where
  -- IN ANY MODE no more than twice the characters of the text
  pub few_moves : (m : Mode) → moves t f m ≤ 2 * characters t
  few_moves m = le_trans (mode_bound t f m) (times_few m (characters t))

  -- IN INLINEASM AND IN DIAGNOSTIC no more than these: nothing is read a second time
  pub once_moves : (moves t f Mode.InlineAsm ≤ characters t) × (moves t f Mode.Diagnostic ≤ characters t)
  once_moves = (omega (arith, mode_bound t f Mode.InlineAsm), omega (arith, mode_bound t f Mode.Diagnostic))

  -- as many times as the mode passes a character at most
  pub mode_moves : (m : Mode) → moves t f m ≤ times m * characters t
  mode_moves m = mode_bound t f m

module _ (t s : List ℕ) (q : Request) (r : Rooms) where
  -- OF EVERY ANSWER, whatever is asked
  pub answer_moves : (answer_of t s q r).moves ≤ times (mode_for q) * characters t
  answer_moves = answer_bound t s q r

  pub answer_few : (answer_of t s q r).moves ≤ 2 * characters t
  answer_few = le_trans answer_moves (times_few (mode_for q) (characters t))

  -- "Every refusal reports 0."
  pub refused_moves : ((answer_of t s q r).number ≡ 0 → ⊥) → (answer_of t s q r).moves ≡ 0
  refused_moves = answer_none t s q r
