-- What is left of a list of texts, and its first text. Rests on Season; the laws are SeasonLaws of proofs/.
use Rattle.std.specs.Prelude.{◌≡◌, List, ◌∷◌, ℕ, ◌≤◌, length, take, drop}
use Rattle.seasons.specs.Season.{two_bytes, written, Short}

-- SO MANY TEXTS ARE LEFT of a list, in these bytes
pub record Rest (k : ℕ) (bytes : List ℕ) (ts : List (List ℕ)) : Type 0 where
  pub whole : bytes ≡ written ts
  pub count : length ts ≡ k
  pub short : Short ts

-- THE FIRST OF WHAT IS LEFT: its length stands before it, and it is followed by the others
pub record Headed (k : ℕ) (bytes : List ℕ) (ts : List (List ℕ)) : Type 0 where
  pub size : ℕ
  pub others : List (List ℕ)
  pub some : 2 ≤ length bytes
  pub length_is : two_bytes size ≡ take 2 bytes
  pub enough : size ≤ length (drop 2 bytes)
  pub split : ts ≡ take size (drop 2 bytes) ∷ others
  pub rest : Rest k (drop size (drop 2 bytes)) others
