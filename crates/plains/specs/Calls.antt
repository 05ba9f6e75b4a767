-- The answer as numbers, and the call for other languages that gives it. Rests on tidiness's answer and output.
use Rattle.std.specs.Prelude.{ℕ, ◌≡◌, Bool, List, [], ◌∷◌, ltb, length}
use Rattle.utf8.specs.Choice.{pick}
use Rattle.reading.specs.Written.{over}
use Rattle.tidiness.specs.Tidies.{tidied_of, output_of}
use Rattle.tidiness.specs.declared.Tidied.{Tidied}

-- the answer's four numbers (R15.16)
unfoldable pub told_words : Tidied → List ℕ
told_words x = x.number ∷ x.place ∷ x.bytes ∷ x.arguments ∷ []

-- the answer's list is too short for them (R15.16)
unfoldable pub is_short : List ℕ → Bool
is_short answer = ltb (length answer) 4

-- A CALL: its number, and the output and the answer's list before and after it, refused calls too (R15.16)
pub record Asked (t : List ℕ) (mode : ℕ) (out out' answer answer' : List ℕ) (r : ℕ) : Type 0 where
  pub number : r ≡ pick (is_short answer) 255 (tidied_of t mode (length out)).number
  pub output : out' ≡ pick (is_short answer) out (output_of t mode out)
  pub told : answer' ≡ pick (is_short answer) answer (over (told_words (tidied_of t mode (length out))) answer)
