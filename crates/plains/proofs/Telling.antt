-- The answer's list, and a call with room for it or without. Rests on Calls.
use Prim.Native.Nat.{ℕ, ◌≤◌, ◌<◌}
use mathlib.Core.Path.{◌≡◌, ap, ◌∙◌}
use mathlib.Core.List.{List, [], ◌∷◌}
use borrow.Author.Tests.{lt-ltb, le-ltb}
use lib.ListN.{length, set}
use lib.Seq.{sets-eq}
use Rattle.utf8.specs.Choice.{pick}
use Rattle.reading.specs.Written.{over}
use Rattle.tidiness.specs.Tidies.{Tidies}
use Rattle.tidiness.specs.declared.Tidied.{Tidied}
use Rattle.plains.specs.Calls.{told_words, is_short, Asked}

-- four numbers, set one after the other
pub four : (l : List ℕ) (x : Tidied) → 4 ≤ length l →
    set (set (set (set l 0 x.number) 1 x.place) 2 x.bytes) 3 x.arguments ≡ over (told_words x) l
unfolding over told_words
four l x h = sets-eq (x.number ∷ x.place ∷ x.bytes ∷ x.arguments ∷ []) l 0 h

module _ (t : List ℕ) (mode : ℕ) (out answer : List ℕ) where
  -- without room for the numbers nothing is done
  pub short : length answer < 4 → Asked t mode out out answer answer 255
  unfolding is_short pick
  short h = record { number = rw (lt-ltb _ _ h); output = rw (lt-ltb _ _ h); told = rw (lt-ltb _ _ h) }

  -- with room they are the answer's
  pub whole : {out' answer' : List ℕ} {x : Tidied} → 4 ≤ length answer → Tidies t mode out out' x → answer' ≡ over (told_words x) answer →
      Asked t mode out out' answer answer' x.number
  unfolding is_short pick
  whole h c w =
      record {
        number = rw (le-ltb _ _ h) (ap (λ (x : Tidied). x.number) c.answer);
        output = rw (le-ltb _ _ h) c.output;
        told = rw (le-ltb _ _ h) (w ∙ ap (λ (x : Tidied). over (told_words x) answer) c.answer);
      }
