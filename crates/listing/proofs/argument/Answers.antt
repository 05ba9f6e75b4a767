-- The parts are what is written, one write behind the other.
use Rattle.std.proofs.Common.{◌≡◌, ℕ, List, ◌++◌, codes, ap, append_assoc, true}
use Rattle.listing.specs.Lines.{details}
use Rattle.listing.specs.Parts.{range_listed, place_listed}
use Rattle.listing.specs.Shapes.{Wrote}
use Rattle.listing.proofs.Joins.{more}
use Rattle.listing.proofs.argument.Goals as goal
use Rattle.listing.proofs.argument.Goals.{then-full+in_ok-write-2, else-full}

abbrev head : List ℕ → List ℕ → List ℕ
head range place = codes "arg " ++ (range ++ (codes " " ++ place))

behind : (range place rest : List ℕ) → head range place ++ rest ≡ codes "arg " ++ (range ++ (codes " " ++ (place ++ rest)))
behind range place rest = ap (λ l. codes "arg " ++ l) (append_assoc range (codes " " ++ place) rest)

pub returns : goal.returns
returns g c =
    let a = c.args.a in
    elim c.if-full.branch [
      | then-full+in_ok-write-2 w ↦
          let end = rw w.out-is at c.writeln.ensures.bytes in
          let line : Wrote c.writeln.result (g.W.Write.contents c.args.out.now) (g.W.Write.contents c.writeln.new.self) (head (range_listed a.range) (place_listed a.place) ++ (details true a ++ codes "\n")) =
          more c.writeln.result _ _ _ _ _ c.in_ok-write.ensures.bytes (more c.writeln.result _ _ _ _ _ (rw w.from.ensures at w.in_ok-write-2.ensures.bytes) end)
          in
          rw w.if-full.true (rw (behind (range_listed a.range) (place_listed a.place) (details true a ++ codes "\n")) at line)
      | else-full w ↦
          let end = rw w.out-is at c.writeln.ensures.bytes in
          let line : Wrote c.writeln.result (g.W.Write.contents c.args.out.now) (g.W.Write.contents c.writeln.new.self) (head (range_listed a.range) (place_listed a.place) ++ codes "\n") =
          more c.writeln.result _ _ _ _ _ c.in_ok-write.ensures.bytes end
          in
          rw w.if-full.false (rw (behind (range_listed a.range) (place_listed a.place) (codes "\n")) at line)
    ]
