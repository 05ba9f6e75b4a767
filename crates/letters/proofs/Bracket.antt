-- The halving search: `lo` and `hi` bracket the range that may hold `c`, and halving keeps it so. Rests on TableLaws.
use Prim.Native.Nat.{ℕ, zero, suc, ◌+◌, ◌≤◌, ◌<◌, zero-le, suc-le-suc}
use mathlib.Core.Path.{◌≡◌}
use mathlib.Core.Bool.{false}
use mathlib.Core.Logic.{◌⊎◌, inl, inr}
use mathlib.Core.List.{List}
use native.Mathlib.Nat.{le_of_suc-le-suc, le_trans, eq-or-lt_of_le}
use native.Mathlib.Numerals.{add-one}
use native.Mathlib.Omega.{arith}
use lib.Dec.{T}
use Rattle.letters.specs.Table.{member, ascending}
use Rattle.letters.specs.TableLaws.{lo_at, hi_at, pairs, past, whole, absent}

lt_or_le : (m n : ℕ) → (m < n) ⊎ (n ≤ m)
lt_or_le m zero = inr zero-le
lt_or_le zero (suc n) = inl (suc-le-suc zero-le)
lt_or_le (suc m) (suc n) = go (lt_or_le m n)
  where
    go : (m < n) ⊎ (n ≤ m) → (suc m < suc n) ⊎ (suc n ≤ suc m)
    go (inl h) = inl (suc-le-suc h)
    go (inr h) = inr (suc-le-suc h)

-- the ranges below lo end before c, and those from hi on start past it
pub record Bracket (t : List ℕ) (c lo hi : ℕ) : Type 0 where
  pub order : lo ≤ hi
  pub end : hi ≤ pairs t
  pub below : (k : ℕ) → k < lo → hi_at t k < c
  pub above : (k : ℕ) → hi ≤ k → k < pairs t → c < lo_at t k

pub bracket_start : (t : List ℕ) (c n : ℕ) → n ≡ pairs t → Bracket t c 0 n
bracket_start t c n e = record { order = zero-le; end = omega arith; below = λ k l. absurd (omega arith); above = λ k l h. absurd (omega arith) }

module _ {t : List ℕ} {c lo hi : ℕ} (a : T (ascending 0 t)) (b : Bracket t c lo hi) where
  pub bracket_down : (m : ℕ) → lo ≤ m → m < hi → c < lo_at t m → Bracket t c lo m
  bracket_down m l h u = record {
    order = l;
    end = omega (arith, b.end);
    below = b.below;
    above = λ k mk kn. up k (split m k mk) kn;
  }
    where
      split : (m k : ℕ) → m ≤ k → (m ≡ k) ⊎ (m < k)
      split m k h = eq-or-lt_of_le h

      up : (k : ℕ) → (m ≡ k) ⊎ (m < k) → k < pairs t → c < lo_at t k
      up k (inl e) kn = rw e at u
      up k (inr l) kn = omega (arith, past 0 t a m k l kn, whole 0 t a m (omega (arith, b.end)))

  pub bracket_up : (m : ℕ) → lo ≤ m → m < hi → hi_at t m < c → Bracket t c (m + 1) hi
  bracket_up m l h u = record {
    order = omega arith;
    end = b.end;
    below = λ k km. down k (eq-or-lt_of_le (le_of_suc-le-suc (rw add-one at km)));
    above = b.above;
  }
    where
      down : (k : ℕ) → (k ≡ m) ⊎ (k < m) → hi_at t k < c
      down k (inl e) = rw e u
      down k (inr l) = omega (arith, past 0 t a k m l (omega (arith, b.end)), whole 0 t a m (omega (arith, b.end)))

  -- where the ends have met, no range holds c
  pub bracket_met : hi ≤ lo → member t c ≡ false
  bracket_met h = absent t c (λ k kn. side k kn (lt_or_le k lo))
    where
      side : (k : ℕ) → k < pairs t → (k < lo) ⊎ (lo ≤ k) → (c < lo_at t k) ⊎ (hi_at t k < c)
      side k kn (inl l) = inr (b.below k l)
      side k kn (inr l) = inl (b.above k (le_trans h l) kn)
