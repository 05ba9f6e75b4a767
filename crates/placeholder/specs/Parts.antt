-- The parts of a Format spec but its type: fill, align, sign, `0`, width, precision. "Each part optional and in this order."
use Rattle.std.specs.Prelude.{ℕ, ◌+◌, Bool, true, false, List, Some, None, Option}
use Prim.Native.Char.{code}
use Rattle.utf8.specs.Choice.{pick}
use Rattle.utf8.specs.Utf8.{peek_at}
use Rattle.frame.specs.Places.{place}
use Rattle.frame.specs.Spans.{span_between}
use Rattle.frame.specs.declared.TextPlace.{TextPlace}
use Rattle.frame.specs.declared.Frame.{Frame}
use Rattle.frame.specs.declared.Span.{Span}
use Rattle.scan.specs.Characters.{is_at, consumed}
use Rattle.scan.specs.Ends.{span_across}
use Rattle.scan.specs.Counts.{count_read}
use Rattle.scan.specs.declared.Flaw.{Flaw}
use Rattle.scan.specs.declared.Numeral.{Numeral}
use Rattle.scan.specs.declared.Count.{Count}
use Rattle.scan.specs.declared.CountRead.{CountRead}
use Rattle.placeholder.specs.declared.Align.{Align}
use Rattle.placeholder.specs.declared.Sign.{Sign}
use Rattle.placeholder.specs.declared.format.FillRead.{FillRead}
use Rattle.placeholder.specs.declared.format.AlignRead.{AlignRead}
use Rattle.placeholder.specs.declared.format.SignRead.{SignRead}
use Rattle.placeholder.specs.declared.format.WidthRead.{WidthRead}
use Rattle.placeholder.specs.declared.format.PrecisionRead.{PrecisionRead}
use Rattle.utf8.specs.declared.Char.{Char}

-- "an align of `<`, `>`, `^`" (R3.8)
unfoldable pub is_align : List ℕ → TextPlace → Bool
is_align t at = pick (is_at t at (code "<")) true (pick (is_at t at (code ">")) true (is_at t at (code "^")))

abbrev pub fill_seen : List ℕ → Frame → TextPlace → Option Char → FillRead
fill_seen t f at None = record { fill = None; at = at }
fill_seen t f at (Some seen) =
    pick (is_align t (place (at.0 + seen.width)))
    (record { fill = Some (record { code = seen.code; span = span_across t f at at }); at = place (at.0 + seen.width) })
    (record { fill = None; at = at })

-- choice 1: "if the second character after the colon is an align, the first is the fill, even a brace" (R4.13)
unfoldable pub fill_read : List ℕ → Frame → TextPlace → FillRead
fill_read t f at = fill_seen t f at (peek_at t at.0)

-- the align, after its fill or alone (R5.9)
unfoldable pub align_read : List ℕ → TextPlace → AlignRead
align_read t at =
    let left = consumed t at (code "<") in
    let right = consumed t at (code ">") in
    let center = consumed t at (code "^") in
    pick left.ate (record { align = Align.Left; at = left.at })
    (pick right.ate (record { align = Align.Right; at = right.at })
    (pick center.ate (record { align = Align.Center; at = center.at })
    (record { align = Align.Unknown; at = at })))

-- "sign `+` `-`" (R5.9)
unfoldable pub sign_read : List ℕ → TextPlace → SignRead
sign_read t at =
    let plus = consumed t at (code "+") in
    let minus = consumed t at (code "-") in
    pick plus.ate (record { sign = Sign.Plus; at = plus.at })
    (pick minus.ate (record { sign = Sign.Minus; at = minus.at })
    (record { sign = Sign.Absent; at = at }))

-- no count stands
abbrev pub is_implied : Count → Bool
is_implied Count.Implied = true
is_implied (Count.Fixed n) = false
is_implied (Count.ByName r q) = false
is_implied (Count.ByArgument i) = false
is_implied (Count.ByStar i) = false

-- a width has a span where it is not implied
abbrev pub width_after : List ℕ → Frame → Bool → TextPlace → CountRead → WidthRead
width_after t f zero at r =
    record {
      zero = zero;
      width = r.count;
      span = pick (is_implied r.count) None (Some (span_between t f at r.at));
      at = r.at;
      flaw = r.flaw;
      given = r.given;
    }

-- (R5.11, R6.8)
unfoldable pub plain_width : List ℕ → Frame → Bool → TextPlace → WidthRead
plain_width t f zero at = width_after t f zero at (count_read t f at)

-- `0$` as the width, its `0` and its `$` at two places
abbrev pub zero_argument : Span → TextPlace → WidthRead
zero_argument span at =
    record {
      zero = false;
      width = Count.ByArgument (Numeral.Within 0);
      span = Some span;
      at = at;
      flaw = Flaw.Clean;
      given = 0;
    }

-- choice 2: "a `0` at the flag's place is the flag unless `$` follows directly; then `0$` is the width" (R4.14, R5.11, R6.8)
unfoldable pub width_read : List ℕ → Frame → TextPlace → WidthRead
width_read t f at =
    let zero = consumed t at (code "0") in
    let dollar = consumed t zero.at (code "$") in
    pick zero.ate
    (pick dollar.ate (zero_argument (span_across t f at zero.at) dollar.at) (plain_width t f true zero.at))
    (plain_width t f false at)

-- a precision's span starts at its dot
abbrev pub precise : List ℕ → Frame → TextPlace → Count → TextPlace → ℕ → Flaw → ℕ → PrecisionRead
precise t f dot count at n x given =
    record {
      precision = count;
      span = Some (span_between t f dot at);
      at = at;
      next = n;
      flaw = x;
      given = given;
    }

abbrev pub precise_count : List ℕ → Frame → TextPlace → ℕ → CountRead → PrecisionRead
precise_count t f dot n r = precise t f dot r.count r.at n r.flaw r.given

-- "Precision is the same, or `*`, or nothing." A star takes the next argument. (R5.12, R5.6, R6.8)
unfoldable pub after_dot : List ℕ → Frame → TextPlace → TextPlace → ℕ → PrecisionRead
after_dot t f dot at n =
    let star = consumed t at (code "*") in
    pick star.ate (precise t f dot (Count.ByStar n) star.at (n + 1) Flaw.Clean 0) (precise_count t f dot n (count_read t f at))

-- (R5.12)
unfoldable pub precision_read : List ℕ → Frame → TextPlace → ℕ → PrecisionRead
precision_read t f at n =
    let dot = consumed t at (code ".") in
    pick dot.ate (after_dot t f at dot.at n)
    (record {
      precision = Count.Implied;
      span = None;
      at = at;
      next = n;
      flaw = Flaw.Clean;
      given = 0;
    })
