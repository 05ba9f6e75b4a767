-- "text is not UTF-8" is what table 3-7 of the Unicode Standard says: refusal 4 is given exactly where the text is not well-formed.
-- Rests on Answers and the laws of UTF-8.
use Rattle.std.specs.Prelude.{ℕ, zero, suc, pred, ◌+◌, ◌≤◌, ◌≡◌, ◌↔◌, false, List, [], ◌∷◌, eqb, length}
use Rattle.std.proofs.Common.{subst, append-nil, arith, ltb-false, le-ltb, take_all}
use Rattle.std.proofs.Math.Nat.{suc-pred-eq_of_pos}
use Rattle.std.proofs.lemmas.Bool.{eqb-false}
use Rattle.utf8.specs.ChoiceLaws.{pick_elim}
use Rattle.utf8.specs.DecodeLaws.{sequence_room}
use Rattle.utf8.specs.Table37.{WellFormed}
use Rattle.utf8.specs.Utf8.{sequence_at, valid, valid_prefix}
use Rattle.utf8.specs.Utf8Laws.{longest, prefix}
use Rattle.reading.specs.Answers.{is_broken}

-- A VALID PREFIX is no longer than its text
valid_within : (k : ℕ) (s : List ℕ) → k ≤ length s → k + valid k s ≤ length s
unfolding valid
valid_within zero [] h = omega arith
valid_within (suc k) [] h = absurd (omega (arith, h))
valid_within zero (b ∷ r) h =
    pick_elim (λ (n : ℕ). 0 + n ≤ suc (length r)) (eqb (sequence_at (b ∷ r)).width 0) (λ _. omega arith)
    (λ e.
    let n = eqb-false (sequence_at (b ∷ r)).width 0 e in
    let one = suc-pred-eq_of_pos {n = (sequence_at (b ∷ r)).width} (omega (arith, n)) in
    let room = sequence_room (b ∷ r) in
    let i = valid_within (pred (sequence_at (b ∷ r)).width) r (omega (arith, one, room)) in
    omega (arith, one, i))
valid_within (suc k) (b ∷ r) h = let i = valid_within k r (omega (arith, h)) in omega (arith, i)

-- a text that is not broken is UTF-8
pub not_broken : (t : List ℕ) → is_broken t ≡ false → valid_prefix t ≡ length t
unfolding is_broken valid_prefix
not_broken t e = let l = ltb-false (valid 0 t) (length t) e in let h = valid_within 0 t (omega arith) in omega (arith, l, h)

-- a well-formed text is its own longest valid prefix
pub well_whole : (t : List ℕ) → WellFormed t → valid_prefix t ≡ length t
unfolding valid_prefix
well_whole t w =
    let all : length t ≤ valid_prefix t = rw append-nil at (longest w []) in
    omega (arith, all, valid_within 0 t (omega arith))

-- REFUSAL 4
pub broken_exactly : (t : List ℕ) → (is_broken t ≡ false) ↔ WellFormed t
unfolding is_broken
broken_exactly t = (
  λ e. subst WellFormed (take_all (valid_prefix t) t (omega (arith, not_broken t e))) (prefix t),
  λ w. le-ltb (valid_prefix t) (length t) (omega (arith, well_whole t w)),
)
