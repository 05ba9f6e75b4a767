-- What is written where two plain forms are not the same: nothing, or words that begin with `differ at piece `.
use Rattle.std.specs.Prelude.{ℕ, List, ◌++◌, ◌⊎◌, Option, codes}
use Rattle.std.specs.Io.KnownBytes.{Keeps, Appends}

-- bytes that begin with those stand behind those that were there
abbrev pub Begins : List ℕ → Option (List ℕ) → Option (List ℕ) → Type 0
Begins start old new = (rest : List ℕ) × Appends old new (start ++ rest)

-- nothing was written, or where two plain forms part
abbrev pub Parted : Option (List ℕ) → Option (List ℕ) → Type 0
Parted old new = Keeps old new ⊎ Begins (codes "differ at piece ") old new
