-- The answer's list, and a call with room for it or without. Rests on Calls.
use Prim.Native.Nat.{ℕ, ◌≤◌, ◌<◌}
use mathlib.Core.Path.{◌≡◌, ap, ◌∙◌}
use mathlib.Core.List.{List, [], ◌∷◌}
use borrow.Author.Tests.{lt-ltb, le-ltb}
use lib.ListN.{length, set}
use lib.Seq.{sets-eq}
use Rattle.utf8.specs.Choice.{pick}
use Rattle.reading.specs.Written.{over}
use Rattle.reading.specs.declared.Request.{Request}
use Rattle.membership.specs.Verdicts.{judged_of}
use Rattle.membership.specs.declared.Verdict.{Verdict}
use Rattle.verdicts.specs.Calls.{told_of, told_words, is_short, Asked}
use Rattle.verdicts.specs.declared.Told.{Told}

-- four numbers, set one after the other
pub four : (l : List ℕ) (x : Told) → 4 ≤ length l →
    set (set (set (set l 0 x.number) 1 x.place) 2 x.rule) 3 x.piece ≡ over (told_words x) l
unfolding over told_words
four l x h = sets-eq (x.number ∷ x.place ∷ x.rule ∷ x.piece ∷ []) l 0 h

module _ (t s : List ℕ) (q : Request) (out : List ℕ) where
  -- without room for the numbers nothing is done
  pub short : length out < 4 → Asked t s q out out 255
  unfolding is_short pick
  short h = record { number = rw (lt-ltb _ _ h); answer = rw (lt-ltb _ _ h) }

  -- with room they are the verdict's
  pub whole : {out' : List ℕ} {v : Verdict} {x : Told} → 4 ≤ length out → v ≡ judged_of t s q → x ≡ told_of v → out' ≡ over (told_words x) out →
      Asked t s q out out' x.number
  unfolding is_short pick
  whole h e g w =
      let k = g ∙ ap told_of e in
      record {
        number = rw (le-ltb _ _ h) (ap (λ (x : Told). x.number) k);
        answer = rw (le-ltb _ _ h) (w ∙ ap (λ (x : Told). over (told_words x) out) k);
      }
