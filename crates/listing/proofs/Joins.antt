-- What was written, and one part more.
use Rattle.std.proofs.Common.{ℕ, List, ◌++◌, Option, Result, Ok, Err, OnOk}
use Rattle.std.proofs.KnownBytes.{Appends-trans}
use Rattle.std.specs.Io.KnownBytes.{Appends}

pub more : {A E : Type 0} (r : Result A E) (old mid new : Option (List ℕ)) (bs cs : List ℕ) → Appends old mid bs → OnOk r (Appends mid new cs) → OnOk r (Appends old new (bs ++ cs))
more (Ok x) old mid new bs cs p q = Appends-trans old mid new bs cs p q
more (Err x) old mid new bs cs p q = tt
