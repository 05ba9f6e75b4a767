-- Parts laid over a list one after another: what is left of them is laid from where the last one ends. Rests on LaidLaws.
use Prim.Native.Nat.{ℕ, suc, ◌+◌, ◌≤◌}
use mathlib.Core.Path.{◌≡◌, refl, ap, ◌∙◌}
use mathlib.Core.List.{List, ◌++◌}
use native.Mathlib.Omega.{arith}
use lib.ListN.{length, set, length-append}
use Rattle.words.specs.Laid.{laid}
use Rattle.words.specs.Layout.{four}
use Rattle.words.specs.LaidLaws.{laid_length, laid_sets, laid_on}

-- four stores are four numbers laid
pub four_laid : (old : List ℕ) (k a b c d : ℕ) → k + 4 ≤ length old → set (set (set (set old k a) (k + 1) b) (k + 2) c) (k + 3) d ≡ laid old k (four a b c d)
four_laid old k a b c d h =
    let p : k + 1 ≡ suc k = omega arith in
    let q : k + 2 ≡ suc (suc k) = omega arith in
    let r : k + 3 ≡ suc (suc (suc k)) = omega arith in
    rw (p, q, r) (laid_sets old k (four a b c d) h)

-- with the rest laid from place j on, the list is as it is to be, and there is room for the rest
pub record Laying {A : Type 0} (old : List A) (k : ℕ) (all : List A) (new : List A) (j : ℕ) (rest : List A) : Type 0 where
  pub gives : laid new j rest ≡ laid old k all
  pub room : j + length rest ≤ length new

module _ {A : Type 0} where
  -- at the start
  pub laying_first : (old : List A) (k : ℕ) (all : List A) → k + length all ≤ length old → Laying old k all old k all
  laying_first old k all h = record { gives = refl; room = h }

  module _ {old : List A} {k : ℕ} {all new new' : List A} {j : ℕ} where
    -- a part of the rest is laid, and the next one is laid after it
    pub laying_on : (xs : List A) {ys : List A} (j' : ℕ) → Laying old k all new j (xs ++ ys) → new' ≡ laid new j xs → j' ≡ j + length xs → Laying old k all new' j' ys
    laying_on xs {ys} j' l w q =
        let room : j + length xs + length ys ≤ length new = omega (arith, l.room, length-append xs ys) in
        record {
          gives = rw (w, q, laid_on new j xs ys room) l.gives;
          room = omega (arith, q, ap length w, laid_length new j xs (omega arith));
        }

    -- all of the rest is laid
    pub laying_last : {rest : List A} → Laying old k all new j rest → new' ≡ laid new j rest → new' ≡ laid old k all
    laying_last l w = w ∙ l.gives
