-- The shapes with their numbers, one after the other, are what the line has.
use Rattle.std.proofs.Common.{◌≡◌, ℕ, List, [], ◌∷◌, ◌++◌, Option, Result, Ok, Err, OnOk, codes, decimal, refl, append_assoc, append-nil, sym}
use Rattle.std.proofs.KnownBytes.{Appends-trans}
use Rattle.std.specs.Io.KnownBytes.{Appends}
use Rattle.utf8.specs.Choice.{pick}
use Rattle.listing.specs.Shapes.{shaped}
use Rattle.report.proofs.lines.answer_line.Goals as goal

first : (a b : ℕ) → shaped (codes "answer # #") a b ≡ codes "answer " ++ (decimal a ++ (32 ∷ decimal b))
unfolding shaped pick
first a b = rw (append-nil (decimal b)) refl

last : (a b : ℕ) → shaped (codes " arguments # moves #\n") a b ≡ codes " arguments " ++ (decimal a ++ (codes " moves " ++ (decimal b ++ (10 ∷ []))))
unfolding shaped pick
last a b = refl

-- what was written, and one part more
more : {A E : Type 0} (r : Result A E) (old mid new : Option (List ℕ)) (bs cs : List ℕ) → Appends old mid bs → OnOk r (Appends mid new cs) → OnOk r (Appends old new (bs ++ cs))
more (Ok x) old mid new bs cs p q = Appends-trans old mid new bs cs p q
more (Err x) old mid new bs cs p q = tt

pub returns : goal.returns
returns g c =
    let a = c.args.answer in
    let k = a.counts in
    rw (
      first a.number a.place,
      last a.arguments a.moves,
      sym (append_assoc (shaped (codes " # #") k.pieces k.errors) (shaped (codes " # #") k.places k.lines)
          (codes " arguments " ++ (decimal a.arguments ++ (codes " moves " ++ (decimal a.moves ++ (10 ∷ [])))))),
    )
    (more c.writeln.result _ _ _ _ _ c.in_ok-write.ensures.bytes (more c.writeln.result _ _ _ _ _ c.in_ok-four_counts.ensures c.writeln.ensures.bytes))
