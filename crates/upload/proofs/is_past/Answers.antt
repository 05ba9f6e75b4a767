-- `upload::is_past` meets its contract: the sum is over the limit where the part alone is, or where what it leaves of the limit is less than the
-- count. Assumes nothing.
use Prim.Native.Nat.{ℕ, ◌+◌, ◌-◌, ◌≤◌}
use mathlib.Core.Path.{◌≡◌, refl}
use mathlib.Core.Bool.{Bool, true, false}
use native.Mathlib.Omega.{arith}
use borrow.Author.Tests.{lt-ltb, le-ltb, ltb-true, ltb-false}
use lib.Dec.{ltb}
use lib.ListN.{length}
use Rattle.uploads.specs.Parts.{is_too_much}
use Rattle.upload.proofs.is_past.Goals as goal

-- what is left of the limit is less than the count exactly where both together pass it
same_test : (n k : ℕ) → k ≤ 65535 → ltb (65535 - k) n ≡ ltb 65535 (n + k)
same_test n k h = go (ltb 65535 (n + k)) refl
  where
    go : (x : Bool) → ltb 65535 (n + k) ≡ x → ltb (65535 - k) n ≡ x
    go true e = let l = ltb-true 65535 (n + k) e in lt-ltb (65535 - k) n (omega arith)
    go false e = let l = ltb-false 65535 (n + k) e in le-ltb (65535 - k) n (omega arith)

pub returns-then-bytes-gt65535 : goal.returns-then-bytes-gt65535
unfolding is_too_much
returns-then-bytes-gt65535 c =
    let a = c.args in
    rw (c.if-state.false, lt-ltb 65535 (a.state.count + length a.bytes.now) (omega (arith, c.if-bytes-gt65535.true)))

pub returns : goal.returns
unfolding is_too_much
returns c =
    let a = c.args in
    rw c.if-state.false (same_test a.state.count (length a.bytes.now) (omega (arith, c.if-bytes-gt65535.false)))
