-- A list whose first n elements have moved back by one, with a record stored at the front.
use mathlib.Core.Path.{◌≡◌, refl, ap, ◌∙◌}
use mathlib.Core.List.{List, [], ◌∷◌}
use Prim.Native.Nat.{ℕ, zero, suc, ◌<◌, ◌+◌, ◌-◌}
use native.Mathlib.Nat.{not-suc-le-zero, le_of_suc-le-suc}
use native.Mathlib.Omega.{arith}
use lib.ListN.{length, set, get_or}
use Rattle.std.specs.List.{copy_within}
use Rattle.reader.specs.Lent.{in_front}

pub shifted : {X : Type 0} (ys : List X) (n : ℕ) (e : X) → n < length ys → set (copy_within ys 0 n 1) 0 e ≡ in_front ys n e
unfolding in_front
shifted [] n e h = absurd (omega (arith, h))
shifted (x ∷ xs) n e h =
    let k : n - 0 ≡ n = omega arith in
    let m : 1 + n ≡ n + 1 = omega arith in
    rw (k, m)

-- The same by steps: an element that moves back by one leaves the rest as it is.
module _ {X : Type 0} where
  -- the list without its element i
  abbrev pub without : List X → ℕ → List X
  without [] i = []
  without (x ∷ xs) zero = xs
  without (x ∷ xs) (suc i) = x ∷ without xs i

  -- element j moved back by one: what is left without j is what was left without j + 1
  pub moved : (l : List X) (j : ℕ) (d : X) → suc j < length l → without (set l (suc j) (get_or l j d)) j ≡ without l (suc j)
  moved [] j d h = absurd (not-suc-le-zero h)
  moved (x ∷ []) j d h = absurd (not-suc-le-zero (le_of_suc-le-suc h))
  moved (x ∷ y ∷ xs) zero d h = refl
  moved (x ∷ y ∷ xs) (suc j) d h = ap (λ (r : List X). x ∷ r) (moved (y ∷ xs) j d (le_of_suc-le-suc h))

  -- so the list keeps what it is without the element that moves
  pub shifts : (l ys : List X) (i n : ℕ) (d : X) → 0 < i → i < length l → without l i ≡ without ys n → without (set l i (get_or l (i - 1) d)) (i - 1) ≡ without ys n
  shifts l ys zero n d p h e = absurd (omega arith)
  shifts l ys (suc j) n d p h e =
      let k : suc j - 1 ≡ j = omega arith in
      rw k (moved l j d h ∙ e)
