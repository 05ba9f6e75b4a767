-- The type of a Format spec: "`?`, `x?`, `X?`, `x`, `X`, or a word not starting with x or X."
use Rattle.std.specs.Prelude.{ℕ, Bool, true, List, Some, None}
use Prim.Native.Char.{code}
use Rattle.utf8.specs.Choice.{pick}
use Rattle.frame.specs.Places.{range_of}
use Rattle.frame.specs.Spans.{span_between}
use Rattle.frame.specs.declared.TextPlace.{TextPlace}
use Rattle.frame.specs.declared.TextRange.{TextRange}
use Rattle.frame.specs.declared.Frame.{Frame}
use Rattle.scan.specs.Characters.{is_at, consumed}
use Rattle.scan.specs.Words.{word_read}
use Rattle.scan.specs.Counts.{is_empty}
use Rattle.scan.specs.declared.Flaw.{Flaw}
use Rattle.scan.specs.declared.WordRead.{WordRead}
use Rattle.placeholder.specs.declared.Hex.{Hex}
use Rattle.placeholder.specs.declared.format.TypeRead.{TypeRead}

-- a type that has no span: `?`, `x`, `X`, `x?`, `X?`
abbrev pub sign_type : Hex → TextRange → TextPlace → Flaw → TypeRead
sign_type h r at x =
    record {
      hex = h;
      typetext = r;
      span = None;
      at = at;
      flaw = x;
    }

-- after an `x` or an `X` at one place, which ended at another: the type is the `?` after it, or it itself (R5.13)
unfoldable pub hex_type : List ℕ → Hex → TextPlace → TextPlace → TypeRead
hex_type t h from at =
    let debug = consumed t at (code "?") in
    pick debug.ate (sign_type h (range_of at debug.at) debug.at Flaw.Clean) (sign_type Hex.Absent (range_of from at) at Flaw.Clean)

-- "`#`, `x` or `X`"
unfoldable pub is_hex_or_hash : List ℕ → TextPlace → Bool
is_hex_or_hash t at = pick (is_at t at (code "#")) true (pick (is_at t at (code "x")) true (is_at t at (code "X")))

-- after a `?`: kind 5 where one of these follows (K5)
unfoldable pub debug_type : List ℕ → TextPlace → TextPlace → TypeRead
debug_type t from at = sign_type Hex.Absent (range_of from at) at (pick (is_hex_or_hash t at) (Flaw.AfterDebug from) Flaw.Clean)

-- a word's span is where it is not empty
abbrev pub type_after : List ℕ → Frame → TextPlace → WordRead → TypeRead
type_after t f at w =
    record {
      hex = Hex.Absent;
      typetext = w.word;
      span = pick (is_empty w.word) None (Some (span_between t f at w.word.end));
      at = w.word.end;
      flaw = w.flaw;
    }

-- (R5.13, R6.8)
unfoldable pub word_type : List ℕ → Frame → TextPlace → TypeRead
word_type t f at = type_after t f at (word_read t at)

-- the type at a place (R5.13)
unfoldable pub type_read : List ℕ → Frame → TextPlace → TypeRead
type_read t f at =
    let lower = consumed t at (code "x") in
    let upper = consumed t at (code "X") in
    let debug = consumed t at (code "?") in
    pick lower.ate (hex_type t Hex.Lower at lower.at)
    (pick upper.ate (hex_type t Hex.Upper at upper.at)
    (pick debug.ate (debug_type t at debug.at)
    (word_type t f at)))
