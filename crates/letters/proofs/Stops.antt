-- Where a run of characters stops at a byte below 0x80, by the byte that is read as 0 past the end. Rests on the laws of characters.
use Rattle.std.proofs.Common.{ℕ, ◌<◌, ◌≡◌, refl, Bool, true, false, List, length, get_or, ltb, ltb-true, ltb-false}
use Rattle.utf8.specs.Chars.{run_end}
use Rattle.utf8.specs.CharLaws.{past_end, run_end_lem, ascii_stop}

module _ (f : ℕ → Bool) (t : List ℕ) (i : ℕ) where
  -- a byte below 0x80 that fails the test, or the end
  pub stop_at : get_or t i 0 < 0x80 → (i < length t → f (get_or t i 0) ≡ false) → run_end f t i ≡ i
  stop_at l n = go (ltb i (length t)) refl
    where
      go : (x : Bool) → ltb i (length t) ≡ x → run_end f t i ≡ i
      go true e = let h = ltb-true i (length t) e in ascii_stop f t i h l (n h)
      go false e = run_end_lem f t i (past_end t i (ltb-false i (length t) e))
