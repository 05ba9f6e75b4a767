-- A walk over what a step found wrong. Rests on reading's Faults.
use Rattle.std.specs.Prelude.{ℕ, ◌≤◌, ◌<◌, ◌≡◌, false, drop, get_or}
use Rattle.reading.specs.Faults.{is_clean, step_slots, wrong}
use Rattle.reading.specs.declared.Fault.{Fault}
use Rattle.reading.specs.declared.Step.{Step}

-- the first slot of a step from one on that is not clean, or 13
pub record FirstWrong (s : Step) (slot k : ℕ) : Type 0 where
  pub from : slot ≤ k
  pub most : k ≤ 13
  pub skipped : wrong (drop slot (step_slots s)) ≡ wrong (drop k (step_slots s))
  pub found : k < 13 → is_clean (get_or (step_slots s) k Fault.Clean) ≡ false
