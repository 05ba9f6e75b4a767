-- All between the braces: "place, whitespace, optionally `:` and a spec".
use Rattle.std.specs.Prelude.{ℕ, ◌+◌, List}
use Rattle.frame.specs.declared.TextPlace.{TextPlace}
use Rattle.frame.specs.declared.Frame.{Frame}
use Rattle.scan.specs.Characters.{spaces_past}
use Rattle.placeholder.specs.Places.{place_read}
use Rattle.placeholder.specs.Specs.{spec_read}
use Rattle.frame.specs.declared.Mode.{Mode}
use Rattle.placeholder.specs.declared.Place.{Place}
use Rattle.placeholder.specs.declared.position.Found.{Found}
use Rattle.placeholder.specs.declared.position.PlaceRead.{PlaceRead}
use Rattle.placeholder.specs.declared.format.SpecRead.{SpecRead}
use Rattle.placeholder.specs.declared.between.Resolved.{Resolved}
use Rattle.placeholder.specs.declared.between.ArgumentRead.{ArgumentRead}

-- a place that is not written takes the next argument (R5.4, R5.6)
abbrev pub resolved : Found → ℕ → Resolved
resolved Found.Nothing n = record { place = Place.Next n; next = n + 1 }
resolved (Found.Number k) n = record { place = Place.At k; next = n }
resolved (Found.Word r) n = record { place = Place.Named r; next = n }

abbrev pub joined : TextPlace → TextPlace → PlaceRead → SpecRead → Resolved → ArgumentRead
joined from to po sp re =
    record {
      place = re.place;
      from = from;
      to = to;
      spec = sp.spec;
      at = sp.at;
      next = re.next;
      flaws =
          record {
            place = po.flaw;
            raw = po.raw;
            width = sp.width;
            precision = sp.precision;
            typetext = sp.typetext;
          };
      given = sp.given;
    }

-- "A place is counted after its spec, so a star comes first." Choice 3: "whitespace before a colon, or with no colon, belongs to the place" (R5.6, R4.15)
unfoldable pub argument_read : List ℕ → Frame → Mode → TextPlace → ℕ → ArgumentRead
argument_read t f m at n =
    let po = place_read t at in
    let to = spaces_past t po.at in
    let sp = spec_read t f m to n in
    joined at to po sp (resolved po.found sp.next)
