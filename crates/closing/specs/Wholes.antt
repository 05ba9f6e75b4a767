-- A placeholder: "`{`, place, whitespace, optionally `:` and a spec, whitespace, `}`", or what stands where its `}` is missing.
use Rattle.std.specs.Prelude.{ℕ, ◌+◌, List}
use Prim.Native.Char.{code}
use Rattle.utf8.specs.Choice.{pick}
use Rattle.frame.specs.Places.{range_of}
use Rattle.frame.specs.Spans.{span_between}
use Rattle.frame.specs.declared.TextPlace.{TextPlace}
use Rattle.frame.specs.declared.Frame.{Frame}
use Rattle.scan.specs.Characters.{past_at, spaces_past, consumed}
use Rattle.placeholder.specs.Arguments.{argument_read}
use Rattle.closing.specs.Defaults.{is_identifier}
use Rattle.closing.specs.Recovery.{because, gap_at, text_taken, recover_read}
use Rattle.placeholder.specs.declared.Argument.{Argument}
use Rattle.frame.specs.declared.Mode.{Mode}
use Rattle.placeholder.specs.declared.between.ArgumentRead.{ArgumentRead}
use Rattle.closing.specs.declared.whole.Closing.{Closing}
use Rattle.closing.specs.declared.whole.PlaceholderRead.{PlaceholderRead}

-- "on each argument record the byte range from its opening brace to where reading stood afterwards" (R5.3, R6.8)
abbrev pub record_of : List ℕ → Frame → TextPlace → ArgumentRead → TextPlace → Argument
record_of t f brace a end =
    record {
      place = a.place;
      placespan = span_between t f a.from a.to;
      spec = a.spec;
      range = range_of brace end;
    }

abbrev pub whole_of : List ℕ → Frame → Mode → TextPlace → ArgumentRead → Closing → TextPlace → ℕ → ℕ → PlaceholderRead
whole_of t f m brace a closing at n given =
    record {
      argument = record_of t f brace a at;
      text = text_taken m a.spec.typetext;
      flaws = a.flaws;
      closing = closing;
      at = at;
      next = n;
      given = given;
    }

-- an argument with no closing brace at a place; its fill stands after the colon, and the colon where the place ends (R8.1, R7.8)
unfoldable pub missing_read : List ℕ → Frame → Mode → TextPlace → ArgumentRead → TextPlace → PlaceholderRead
missing_read t f m brace a at =
    let why = because a.spec.fill (past_at t a.to) brace in
    let on = recover_read t f m a.from (is_identifier a.place a.spec) at a.next in
    whole_of t f m brace a (Closing.Missing (gap_at t at why) on) on.at on.next (a.given + on.given)

-- the placeholder whose opening brace and whose place stand at two places (R5.15)
unfoldable pub placeholder_read : List ℕ → Frame → Mode → TextPlace → TextPlace → ℕ → PlaceholderRead
placeholder_read t f m brace at n =
    let a = argument_read t f m at n in
    let end = spaces_past t a.at in
    let close = consumed t end (code "}") in
    pick close.ate (whole_of t f m brace a (Closing.Closed end) close.at a.next a.given) (missing_read t f m brace a end)
