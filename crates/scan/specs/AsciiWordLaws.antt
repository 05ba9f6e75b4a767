-- Words by their bytes, where these are ASCII. Rests on Words, on the laws of characters and runs of `utf8` and on letters' AsciiLaws.
use Rattle.std.specs.Prelude.{◌≡◌, ℕ, zero, suc, ◌+◌, ◌<◌, Bool, true, false, List, length, nat_lt, slice_index, slice_index_or}
use Rattle.std.proofs.Math.Path.{refl}
use Rattle.std.proofs.Common.{sym, ◌∙◌, true≢false, arith, ltb-true, ltb-false}
use Rattle.std.proofs.Math.ListN.{get_or-eq_default}
use Rattle.utf8.specs.Choice.{pick, within}
use Rattle.utf8.specs.Chars.{run_end}
use Rattle.utf8.specs.CharLaws.{past_end, ascii_stop, ascii_char, run_end_lem}
use Rattle.letters.specs.Ascii.{ascii_start, ascii_continue}
use Rattle.letters.specs.AsciiLaws.{ascii_start_lem, ascii_continue_lem}
use Rattle.letters.specs.Questions.{is_continue}
use Rattle.frame.specs.Places.{place}
use Rattle.scan.specs.Words.{word_end}

-- a byte that is not 0 is within the text
pub byte_in : (t : List ℕ) (i : ℕ) → 0 < slice_index t i → i < length t
byte_in t i p = go (nat_lt i (length t)) refl
  where
    go : (x : Bool) → nat_lt i (length t) ≡ x → i < length t
    go true e = ltb-true i (length t) e
    go false e = absurd (omega (arith, get_or-eq_default t 0 (ltb-false i (length t) e)))

-- 0 starts no word
no_start : ascii_start 0 ≡ false
unfolding ascii_start within
no_start = refl

-- what starts a word is not 0
pub start_in : (b : ℕ) → ascii_start b ≡ true → 0 < b
start_in zero y = absurd (true≢false (sym y ∙ no_start))
start_in (suc k) y = omega arith

module _ (t : List ℕ) (at : ℕ) {b : ℕ} (e : b ≡ slice_index t at) (l : b < 0x80) where
  -- an ASCII start begins a word
  pub word_start : ascii_start b ≡ true → (word_end t (place at)).0 ≡ run_end is_continue t (at + 1)
  unfolding word_end pick
  word_start y =
      let z : ascii_start (slice_index t at) ≡ true = rw e at y in
      let h = start_in (slice_index t at) z in
      rw (ascii_char t at (byte_in t at h) (omega arith), ascii_start_lem (slice_index t at) (omega arith), z)

  -- and no other ASCII character does
  pub word_none : ascii_start b ≡ false → (word_end t (place at)).0 ≡ at
  unfolding word_end pick
  word_none y = go (nat_lt at (length t)) refl
    where
      go : (x : Bool) → nat_lt at (length t) ≡ x → (word_end t (place at)).0 ≡ at
      go true q =
          let z : ascii_start (slice_index t at) ≡ false = rw e at y in
          rw (ascii_char t at (ltb-true at (length t) q) (omega arith), ascii_start_lem (slice_index t at) (omega arith), z)
      go false q = rw (past_end t at (ltb-false at (length t) q))

-- a run of continuations stops at an ASCII byte that is none, and at the end
pub continue_stop : (t : List ℕ) (i : ℕ) {c : ℕ} → c ≡ slice_index t i → c < 0x80 → (i < length t → ascii_continue (slice_index t i) ≡ false) → run_end is_continue t i ≡ i
continue_stop t i e l n = go (nat_lt i (length t)) refl
  where
    go : (x : Bool) → nat_lt i (length t) ≡ x → run_end is_continue t i ≡ i
    go true q =
        let h = ltb-true i (length t) q in
        let b : slice_index_or t i 0 < 0x80 = omega (arith, e) in
        ascii_stop is_continue t i h b (ascii_continue_lem _ b ∙ n h)
    go false q = run_end_lem is_continue t i (past_end t i (ltb-false i (length t) q))
