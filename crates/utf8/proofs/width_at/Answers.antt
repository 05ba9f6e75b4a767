-- `utf8::width_at` meets its contract: a well-formed sequence is as wide as it is, and a byte that begins none is one character. Assumes nothing.
use Rattle.std.proofs.Common.{◌≡◌, ℕ, zero, suc, ◌+◌, ◌≤◌, ◌<◌, List, length, drop, max, sym, ap, arith}
use Rattle.utf8.specs.Utf8.{sequence_at}
use Rattle.utf8.specs.Utf8Laws.{valid_room}
use Rattle.utf8.specs.CountLaws.{Passed, passed_on, passed_none}
use Rattle.utf8.specs.declared.Sequence.{Sequence}
use Rattle.utf8.proofs.width_at.Goals as goal

passed : (t : List ℕ) (i w : ℕ) → i < length t → (sequence_at (drop i t)).width ≡ w → (1 ≤ max w 1) × (i + max w 1 ≤ length t) × Passed t i (max w 1)
passed t i zero h e = (omega arith, omega arith, passed_none t i h e)
passed t i (suc w) h e =
    let q : max (suc w) 1 ≡ suc w = omega arith in
    rw q (omega arith, valid_room t i (suc w) e (omega arith), passed_on t i (suc w) e (omega arith))

pub returns : goal.returns
returns c = rw c.max.ensures (passed c.args.text.now c.args.at _ c.requires (ap (λ (s : Sequence). s.width) (sym c.sequence_at.ensures)))
