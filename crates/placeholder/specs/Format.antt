-- The whole Format spec after its colon: its parts one after the other.
use Rattle.std.specs.Prelude.{ℕ, ◌+◌, List}
use Prim.Native.Char.{code}
use Rattle.frame.specs.declared.TextPlace.{TextPlace}
use Rattle.frame.specs.declared.Frame.{Frame}
use Rattle.scan.specs.Characters.{consumed}
use Rattle.scan.specs.declared.Consumed.{Consumed}
use Rattle.placeholder.specs.Parts.{fill_read, align_read, sign_read, width_read, precision_read}
use Rattle.placeholder.specs.Types.{type_read}
use Rattle.placeholder.specs.declared.format.FillRead.{FillRead}
use Rattle.placeholder.specs.declared.format.AlignRead.{AlignRead}
use Rattle.placeholder.specs.declared.format.SignRead.{SignRead}
use Rattle.placeholder.specs.declared.format.WidthRead.{WidthRead}
use Rattle.placeholder.specs.declared.format.PrecisionRead.{PrecisionRead}
use Rattle.placeholder.specs.declared.format.TypeRead.{TypeRead}
use Rattle.placeholder.specs.declared.format.SpecRead.{SpecRead}

-- what the parts found, as one spec
abbrev pub gathered : FillRead → AlignRead → SignRead → Consumed → WidthRead → PrecisionRead → TypeRead → SpecRead
gathered fi al si ha wi pr ty =
    record {
      spec =
          record {
            fill = fi.fill;
            align = al.align;
            sign = si.sign;
            alternate = ha.ate;
            zero = wi.zero;
            hex = ty.hex;
            width = wi.width;
            widthspan = wi.span;
            precision = pr.precision;
            precisionspan = pr.span;
            typetext = ty.typetext;
            typespan = ty.span;
          };
      at = ty.at;
      next = pr.next;
      width = wi.flaw;
      precision = pr.flaw;
      typetext = ty.flaw;
      given = wi.given + pr.given;
    }

-- "fill and align; sign `+` `-`; `#`; `0`; width; `.` with precision; type" (R4.6, R5.9)
unfoldable pub format_read : List ℕ → Frame → TextPlace → ℕ → SpecRead
format_read t f at n =
    let fi = fill_read t f at in
    let al = align_read t fi.at in
    let si = sign_read t al.at in
    let ha = consumed t si.at (code "#") in
    let wi = width_read t f ha.at in
    let pr = precision_read t f wi.at n in
    let ty = type_read t f pr.at in
    gathered fi al si ha wi pr ty
