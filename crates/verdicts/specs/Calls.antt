-- The verdict on a text as numbers, and the call that gives it. Rests on membership's verdict.
use Rattle.std.specs.Prelude.{ℕ, ◌≡◌, Bool, List, [], ◌∷◌, ltb, length}
use Rattle.utf8.specs.Choice.{pick}
use Rattle.reading.specs.Written.{over}
use Rattle.reading.specs.declared.Request.{Request}
use Rattle.membership.specs.Verdicts.{judged_of}
use Rattle.membership.specs.declared.Verdict.{Verdict}
use Rattle.verdicts.specs.declared.Told.{Told}

-- a verdict's four numbers; what it does not have is 0 (R13.8)
abbrev pub told_of : Verdict → Told
told_of Verdict.Yes = record { number = 0; place = 0; rule = 0; piece = 0 }
told_of (Verdict.Broken k p) = record { number = 0; place = 0; rule = k; piece = p }
told_of (Verdict.Refused n at) = record { number = n; place = at; rule = 0; piece = 0 }

unfoldable pub told_words : Told → List ℕ
told_words x = x.number ∷ x.place ∷ x.rule ∷ x.piece ∷ []

-- the answer's list is too short for them (R13.8)
unfoldable pub is_short : List ℕ → Bool
is_short out = ltb (length out) 4

-- A CALL: its number, and the answer's list before and after it, refused calls too (R13.8)
pub record Asked (t s : List ℕ) (q : Request) (out out' : List ℕ) (r : ℕ) : Type 0 where
  pub number : r ≡ pick (is_short out) 255 (told_of (judged_of t s q)).number
  pub answer : out' ≡ pick (is_short out) out (over (told_words (told_of (judged_of t s q))) out)
