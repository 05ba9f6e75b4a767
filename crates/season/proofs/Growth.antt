-- The room of the totals, text by text. Rests on Growing and on seasons' laws.
use mathlib.Core.Path.{◌≡◌, sym, ap, ◌∙◌}
use mathlib.Core.List.{List}
use Prim.Native.Nat.{ℕ, ◌*◌, ◌≤◌}
use native.Mathlib.Omega.{arith}
use lib.ListN.{length, get_or, take}
use lib.Seq.{length-take-le}
use Rattle.seasons.specs.TotalLaws.{plus_line, own_length}
use Rattle.seasons.proofs.FewLaws.{own_few}
use Rattle.seasons.specs.Totals.{own, plus}
use Rattle.totals.specs.Adding.{Room}
use Rattle.season.specs.Growing.{Grown}

-- a text's own totals are small
pub grown_own : (row t : List ℕ) {row' : List ℕ} → length row ≡ 24 → length t ≤ 65535 → length row' ≡ length row → row' ≡ plus row (own t) → Grown row row'
grown_own row t rows short same e =
    record {
      same = same;
      few = λ i. omega (arith, ap (λ (l : List ℕ). get_or l i 0) e, plus_line row (own t) i (rows ∙ sym (own_length t)), own_few t short i);
    }

-- with so many texts left, each total has room
pub record Ready (row : List ℕ) (left : ℕ) : Type 0 where
  pub rows : length row ≡ 24
  pub few : left ≤ 10000
  pub room : Room (0x100000 * left) row

-- the first bytes of a buffer that are all there
pub take_short : (n : ℕ) (l : List ℕ) {got : ℕ} → n ≤ got → got ≤ length l → n ≤ 65535 → length (take n l) ≤ 65535
take_short n l a b few = omega (arith, length-take-le n l (omega (arith, a, b)), few)
