-- What is written part by part. Rests on Likeness.
use Rattle.std.proofs.Common.{ℕ, List, ◌++◌, Option, Result, Ok, Err, OnOk}
use Rattle.std.proofs.KnownBytes.{Appends-trans}
use Rattle.std.specs.Io.KnownBytes.{Appends}
use Rattle.alike.specs.Likeness.{Begins}

-- what was written, and one part more
pub more : {A E : Type 0} (r : Result A E) (old mid new : Option (List ℕ)) (bs cs : List ℕ) → Appends old mid bs → OnOk r (Appends mid new cs) → OnOk r (Appends old new (bs ++ cs))
more (Ok x) old mid new bs cs p q = Appends-trans old mid new bs cs p q
more (Err x) old mid new bs cs p q = tt

-- what was written begins with its first bytes
pub begins : {A E : Type 0} (r : Result A E) (old new : Option (List ℕ)) (start rest : List ℕ) → OnOk r (Appends old new (start ++ rest)) → OnOk r (Begins start old new)
begins (Ok x) old new start rest p = (rest, p)
begins (Err x) old new start rest p = tt
