-- A record added to a lent list that has its records first and the caller's own elements after them.
use Rattle.std.specs.Prelude.{ℕ, ◌+◌, ◌≡◌, Bool, List, ◌∷◌, ◌++◌, length, take, drop, set}
use Rattle.utf8.specs.Choice.{pick}
use Rattle.reading.specs.Written.{over}

-- "a front record moves the others back by one": the first n move, the rest stay (R7.2)
unfoldable pub in_front : {A : Type 0} → List A → ℕ → A → List A
in_front es n e = e ∷ (take n es ++ drop (n + 1) es)

-- "Added at the back .. Put at the front" (R7.2)
unfoldable pub put : {A : Type 0} → Bool → List A → ℕ → A → List A
put front es n e = pick front (in_front es n e) (set es n e)

-- "Done fills the first records of each list; the rest stay": the list at exit, and how many records it was filled with (R1.3)
pub record FilledBy {A : Type 0} (es before after : List A) (n : ℕ) : Type 0 where
  pub count : n ≡ length es
  pub list : after ≡ over es before
