-- The spec of each mode, with the colon before it.
use Rattle.std.specs.Prelude.{ℕ, false, List, Some, None}
use Prim.Native.Char.{code}
use Rattle.utf8.specs.Choice.{pick}
use Rattle.frame.specs.Places.{range_of}
use Rattle.frame.specs.Spans.{span_between}
use Rattle.frame.specs.declared.TextPlace.{TextPlace}
use Rattle.frame.specs.declared.Frame.{Frame}
use Rattle.scan.specs.Characters.{consumed, text_end}
use Rattle.scan.specs.declared.Flaw.{Flaw}
use Rattle.scan.specs.declared.Count.{Count}
use Rattle.placeholder.specs.Types.{word_type}
use Rattle.placeholder.specs.Format.{format_read}
use Rattle.placeholder.specs.declared.Align.{Align}
use Rattle.placeholder.specs.declared.Hex.{Hex}
use Rattle.frame.specs.declared.Mode.{Mode}
use Rattle.placeholder.specs.declared.Sign.{Sign}
use Rattle.placeholder.specs.declared.format.TypeRead.{TypeRead}
use Rattle.placeholder.specs.declared.format.SpecRead.{SpecRead}

-- a spec that has a type and nothing else (R5.14)
abbrev pub type_only : TypeRead → ℕ → SpecRead
type_only ty n =
    record {
      spec =
          record {
            fill = None;
            align = Align.Unknown;
            sign = Sign.Absent;
            alternate = false;
            zero = false;
            hex = ty.hex;
            width = Count.Implied;
            widthspan = None;
            precision = Count.Implied;
            precisionspan = None;
            typetext = ty.typetext;
            typespan = ty.span;
          };
      at = ty.at;
      next = n;
      width = Flaw.Clean;
      precision = Flaw.Clean;
      typetext = ty.flaw;
      given = 0;
    }

-- no colon, no spec: the type is empty where reading stood (R5.8)
abbrev pub no_spec : TextPlace → ℕ → SpecRead
no_spec at n =
    type_only
    (record {
      hex = Hex.Absent;
      typetext = range_of at at;
      span = None;
      at = at;
      flaw = Flaw.Clean;
    })
    n

-- "Diagnostic spec: any text without braces, trailing whitespace included"; the span takes in the colon (R5.14, R6.8)
unfoldable pub diagnostic_type : List ℕ → Frame → TextPlace → TextPlace → TypeRead
diagnostic_type t f colon at =
    record {
      hex = Hex.Absent;
      typetext = range_of at (text_end t at);
      span = Some (span_between t f colon (text_end t at));
      at = text_end t at;
      flaw = Flaw.Clean;
    }

-- the spec after a colon; "InlineAsm spec: a word, or nothing" (R5.9, R5.14)
abbrev pub after_colon : List ℕ → Frame → Mode → TextPlace → TextPlace → ℕ → SpecRead
after_colon t f Mode.Format colon at n = format_read t f at n
after_colon t f Mode.InlineAsm colon at n = type_only (word_type t f at) n
after_colon t f Mode.Diagnostic colon at n = type_only (diagnostic_type t f colon at) n

-- "optionally `:` and a spec" (R5.8)
unfoldable pub spec_read : List ℕ → Frame → Mode → TextPlace → ℕ → SpecRead
spec_read t f m at n =
    let colon = consumed t at (code ":") in
    pick colon.ate (after_colon t f m at colon.at n) (no_spec at n)
