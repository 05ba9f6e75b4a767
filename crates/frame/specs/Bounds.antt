-- What functions that make spans ask of a text and its frame: the limits of refusals 2 and 3.
use Rattle.std.specs.Prelude.{ℕ, ◌≤◌, List, length}
use Rattle.frame.specs.declared.Frame.{Frame}

-- a text within refusal 3's limit, and an offset within refusal 2's
pub record Small (t : List ℕ) (f : Frame) : Type 0 where
  pub text : length t ≤ 65535
  pub quote : f.quote ≤ 257
