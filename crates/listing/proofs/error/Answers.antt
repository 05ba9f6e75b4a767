-- The parts are what is written, those that may be absent as what they are made of.
use Rattle.std.proofs.Common.{append_assoc}
use Rattle.listing.specs.Parts.{span_ends, range_ends, ends_listed}
use Rattle.listing.proofs.Dashes.{or_dash_map}
use Rattle.listing.proofs.error.Goals as goal

pub returns : goal.returns
returns g c =
    let e = c.args.e in
    simp (
      or_dash_map span_ends ends_listed e.second c.map.result c.map.ensures.cases,
      or_dash_map range_ends ends_listed e.quoted c.map-2.result c.map-2.ensures.cases,
      or_dash_map span_ends ends_listed e.suggestion c.map-3.result c.map-3.ensures.cases,
      c.from.ensures,
      append_assoc,
    )
    at c.writeln.ensures.bytes
