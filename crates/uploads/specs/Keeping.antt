-- That the parts so far are kept. Rests on Parts; that a part keeps them is PartLaws of proofs/.
use Rattle.std.specs.Prelude.{ℕ, ◌≤◌, ◌<◌, ◌≡◌, true, false, List, length, take}
use Rattle.utf8.specs.Utf8.{valid_prefix}
use Rattle.uploads.specs.Parts.{is_unfit, Held}

-- THE PARTS SO FAR, joined to the text j, are kept in a state and its buffer
pub record Kept (j : List ℕ) (h : Held) : Type 0 where
  pub fits : is_unfit h.state h.buffer ≡ false
  pub within : h.state.over ≡ false → length j ≤ 65535
  pub bytes : h.state.over ≡ false → take h.state.count h.buffer ≡ j
  pub count : h.state.over ≡ false → h.state.count ≡ length j
  pub valid : h.state.over ≡ false → h.state.valid ≡ valid_prefix j
  pub long : h.state.over ≡ true → 65535 < length j
