-- What a decision says before the text is read. Rests on Decisions and on the laws of the answer.
use Rattle.std.specs.Prelude.{ℕ, ◌≡◌, List, Ok}
use Rattle.std.proofs.Common.{arith}
use Rattle.frame.specs.Bounds.{Small}
use Rattle.reading.specs.declared.Request.{Request}
use Rattle.laws.specs.AnswerLaws.{small_frame}
use Rattle.answer.specs.Decisions.{Opened}
use Rattle.answer.specs.Refusals.{number_of}
use Rattle.answer.specs.declared.Readable.{Readable}
use Rattle.answer.specs.declared.Refusal.{Refusal}

-- no refusal has the number of a call that is done
pub never_zero : (e : Refusal) → ¬ (number_of e ≡ 0)
never_zero Refusal.Unfit z = omega (arith, z)
never_zero Refusal.Mode z = omega (arith, z)
never_zero Refusal.Style z = omega (arith, z)
never_zero Refusal.Length z = omega (arith, z)
never_zero (Refusal.NotUtf8 valid) z = omega (arith, z)
never_zero Refusal.Newline z = omega (arith, z)
never_zero Refusal.Pieces z = omega (arith, z)
never_zero Refusal.Errors z = omega (arith, z)
never_zero Refusal.Places z = omega (arith, z)
never_zero Refusal.Lines z = omega (arith, z)

-- without a refusal the frame is small
pub opened_small : (t s : List ℕ) (q : Request) {x : Readable} → Opened t s q (Ok x) → Small t x.frame
opened_small t s q y = rw y.readable.frame (small_frame t s q y.short)
