-- Literal text, byte by byte: how far it goes is told by the bytes without a brace that were passed. Rests on `utf8`'s laws of runs and `scan`'s plain characters.
use Prim.Native.Nat.{ℕ, ◌+◌, ◌≤◌, ◌<◌}
use mathlib.Core.Path.{◌≡◌, sym, ◌∙◌, ap}
use mathlib.Core.List.{List}
use native.Mathlib.Omega.{arith}
use lib.ListN.{length, get_or}
use Rattle.utf8.specs.Chars.{run_end}
use Rattle.utf8.specs.CharLaws.{byte_more, byte_stop}
use Rattle.utf8.specs.Blocks.{one}
use Rattle.utf8.specs.BlockLaws.{one_none, one_some}
use Rattle.scan.specs.Characters.{is_plain}
use Rattle.scan.specs.ScanLaws.{plain_high}

-- PASSED: so many bytes from a place on are plain
pub record Plain (t : List ℕ) (at k : ℕ) : Type 0 where
  pub on : run_end is_plain t (at + k) ≡ run_end is_plain t at

module _ {t : List ℕ} {at : ℕ} where
  pub plain_none : Plain t at 0
  plain_none = record { on = ap (run_end is_plain t) (omega arith) }

  module _ {k : ℕ} (p : Plain t at k) (i : ℕ) (e : i ≡ at + k) (h : i < length t) where
    -- one byte more that is no brace
    pub plain_more : (one (is_plain (get_or t i 0)) ≡ 0 → ⊥) → Plain t at (k + 1)
    plain_more n =
        let m : at + (k + 1) ≡ i + 1 = omega (arith, e) in
        record { on = rw m (byte_more is_plain plain_high t i h (one_some _ n) ∙ ap (run_end is_plain t) e ∙ p.on) }

    -- a brace
    pub plain_stop : one (is_plain (get_or t i 0)) ≡ 0 → at + k ≡ run_end is_plain t at
    plain_stop z = sym e ∙ sym (byte_stop is_plain plain_high t i h (one_none _ z)) ∙ ap (run_end is_plain t) e ∙ p.on

-- no brace among four
pub plain_four : (t : List ℕ) (at r to : ℕ) → (run_end is_plain t (at + r) ≡ run_end is_plain t at) × (r ≤ 4) → 4 ≤ r → to ≡ at + 4 → run_end is_plain t to ≡ run_end is_plain t at
plain_four t at r to p n e = let four : at + r ≡ to = omega (arith, p.1, n, e) in rw four at p.0
