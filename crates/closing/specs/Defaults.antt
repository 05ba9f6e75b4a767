-- A name and nothing else: what a field access or a tuple index may follow.
use Rattle.std.specs.Prelude.{Bool, true, false, Option, Some, None}
use Rattle.utf8.specs.Choice.{both}
use Rattle.scan.specs.Counts.{is_empty}
use Rattle.scan.specs.declared.Count.{Count}
use Rattle.placeholder.specs.Parts.{is_implied}
use Rattle.placeholder.specs.declared.Align.{Align}
use Rattle.placeholder.specs.declared.Fill.{Fill}
use Rattle.placeholder.specs.declared.Hex.{Hex}
use Rattle.placeholder.specs.declared.Place.{Place}
use Rattle.placeholder.specs.declared.Sign.{Sign}
use Rattle.placeholder.specs.declared.Spec.{Spec}
use Rattle.frame.specs.declared.Span.{Span}

abbrev pub no_fill : Option Fill → Bool
no_fill None = true
no_fill (Some f) = false

abbrev pub no_align : Align → Bool
no_align Align.Unknown = true
no_align Align.Left = false
no_align Align.Right = false
no_align Align.Center = false

abbrev pub no_sign : Sign → Bool
no_sign Sign.Absent = true
no_sign Sign.Plus = false
no_sign Sign.Minus = false

abbrev pub no_hex : Hex → Bool
no_hex Hex.Absent = true
no_hex Hex.Lower = false
no_hex Hex.Upper = false

abbrev pub no_span : Option Span → Bool
no_span None = true
no_span (Some s) = false

abbrev pub is_false : Bool → Bool
is_false true = false
is_false false = true

abbrev pub is_named : Place → Bool
is_named (Place.Next n) = false
is_named (Place.At n) = false
is_named (Place.Named r) = true

unfoldable pub no_marks : Option Fill → Align → Sign → Bool → Bool → Hex → Bool
no_marks fi al si alternate zero hx =
    both (no_fill fi) (both (no_align al) (both (no_sign si) (both (is_false alternate) (both (is_false zero) (no_hex hx)))))

unfoldable pub no_counts : Count → Option Span → Count → Option Span → Bool
no_counts w ws p ps = both (is_implied w) (both (no_span ws) (both (is_implied p) (no_span ps)))

-- a spec equal to the one of a placeholder without a colon, spans included (R8.3)
unfoldable pub is_default : Spec → Bool
is_default s =
    both (no_marks s.fill s.align s.sign s.alternate s.zero s.hex)
    (both (no_counts s.width s.widthspan s.precision s.precisionspan) (both (is_empty s.typetext) (no_span s.typespan)))

-- kinds 13 and 14 need a named place and a spec equal to the default, as in the Rust (R8.3)
unfoldable pub is_identifier : Place → Spec → Bool
is_identifier p s = both (is_named p) (is_default s)
