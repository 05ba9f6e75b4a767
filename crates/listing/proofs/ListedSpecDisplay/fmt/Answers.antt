-- The parts are what is written, one write behind the other; those that may be absent as what they are made of, and the marks by their numbers.
use Rattle.std.proofs.Common.{◌≡◌, ◌++◌, append_assoc, append-nil, refl, codes, decimal}
use Rattle.std.specs.Fmt.{HasWritten}
use Rattle.std.specs.Int.{from_bool}
use Rattle.std.proofs.Output.{has_written_append}
use denote.Enum.Declared.{tag_of}
use Rattle.placeholder.specs.contracts.Align as Aligns
use Rattle.placeholder.specs.contracts.Hex as Hexes
use Rattle.placeholder.specs.contracts.Sign as Signs
use Rattle.placeholder.specs.declared.Align.{Align}
use Rattle.placeholder.specs.declared.Fill.{Fill}
use Rattle.placeholder.specs.declared.Hex.{Hex}
use Rattle.placeholder.specs.declared.Sign.{Sign}
use Rattle.listing.specs.declared.Listed.{Listed}
use Rattle.listing.specs.Parts.{span_ends, ends_listed, fill_listed, align_number, sign_number, hex_number, or_dash, span_listed, count_listed, range_listed}
use Rattle.listing.proofs.Dashes.{or_dash_map, or_dash_held}
use Rattle.listing.proofs.ListedSpecDisplay.fmt.Goals as goal

abbrev held : Listed Fill → Fill
held listed = listed.0

align_tag : (align : Align) → tag_of Aligns.the_type align ≡ align_number align
align_tag Align.Unknown = refl
align_tag Align.Left = refl
align_tag Align.Right = refl
align_tag Align.Center = refl

sign_tag : (sign : Sign) → tag_of Signs.the_type sign ≡ sign_number sign
sign_tag Sign.Absent = refl
sign_tag Sign.Plus = refl
sign_tag Sign.Minus = refl

hex_tag : (hex : Hex) → tag_of Hexes.the_type hex ≡ hex_number hex
hex_tag Hex.Absent = refl
hex_tag Hex.Lower = refl
hex_tag Hex.Upper = refl

pub returns-clause-writes : goal.returns-clause-writes
returns-clause-writes g c p ok =
    let spec = c.args.self.now.0 in
    let took = g.W.Write.write_str_gives in
    let marks = rw (or_dash_held held fill_listed spec.fill c.map.result c.map.ensures.cases, align_tag spec.align, sign_tag spec.sign) at c.in_ok-write.ensures.writes in
    let flags = rw (hex_tag spec.hex) at c.in_ok-write-2.ensures.writes in
    let width = rw (or_dash_map span_ends ends_listed spec.widthspan c.map-2.result c.map-2.ensures.cases) at c.in_ok-write-3.ensures.writes in
    let precision = rw (or_dash_map span_ends ends_listed spec.precisionspan c.map-3.result c.map-3.ensures.cases) at c.in_ok-write-4.ensures.writes in
    let kind = rw (or_dash_map span_ends ends_listed spec.typespan c.map-4.result c.map-4.ensures.cases) at c.write-5.ensures.writes in
    let one : HasWritten took c.args.f.now (codes "fill " ++ (or_dash fill_listed spec.fill ++ (codes " align " ++ (decimal (align_number spec.align) ++ (codes " sign " ++ decimal (sign_number spec.sign)))))) c.write.new.self =
    marks p refl
    in
    let two : HasWritten took c.write.new.self (codes " alt " ++ (decimal (from_bool spec.alternate) ++ (codes " zero " ++ (decimal (from_bool spec.zero) ++ (codes " hex " ++ decimal (hex_number spec.hex)))))) c.write-2.new.self =
    flags one.plain refl
    in
    let three : HasWritten took c.write-2.new.self (codes " width " ++ (count_listed spec.width ++ (codes " " ++ or_dash span_listed spec.widthspan))) c.write-3.new.self = width two.plain refl in
    let four : HasWritten took c.write-3.new.self (codes " precision " ++ (count_listed spec.precision ++ (codes " " ++ or_dash span_listed spec.precisionspan))) c.write-4.new.self = precision three.plain refl in
    let five : HasWritten took c.write-4.new.self (codes " type " ++ (range_listed spec.typetext ++ (codes " " ++ or_dash span_listed spec.typespan))) c.write-5.new.self = kind four.plain ok in
    let whole = has_written_append _ _ _ _ _ _ one (has_written_append _ _ _ _ _ _ two (has_written_append _ _ _ _ _ _ three (has_written_append _ _ _ _ _ _ four five))) in
    rw append-nil (simp append_assoc at whole)
