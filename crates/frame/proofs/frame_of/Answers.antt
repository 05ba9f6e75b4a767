-- `frame::frame_of` meets its contract: its three returns are the three cases of "end". A source literal has a snippet, with room for
-- its quote and hashes.
use mathlib.Core.Path.{sym, ◌∙◌}
use native.Mathlib.Omega.{arith}
use Rattle.utf8.specs.Choice.{pick}
use Rattle.frame.specs.Frames.{end_of, frame_of}
use Rattle.frame.proofs.Literal.{Told, literal_tells}
use Rattle.frame.proofs.frame_of.Goals.{Then-is_literal}
use Rattle.frame.proofs.frame_of.Goals as goal

pub quote_offset-quote-requires : goal.quote_offset-quote-requires
quote_offset-quote-requires c = tt

pub is_literal-requires : goal.is_literal-requires
is_literal-requires c = tt

pub hashes_of-requires : goal.hashes_of-requires
hashes_of-requires c = tt

-- what the source literal tells
told : (c : Then-is_literal) →
    Told
    c.args.style
    c.args.given
    c.args.snippet.now
told c = literal_tells _ _ _ _ _ (sym c.is_literal.ensures ∙ c.if-is_literal.true)

pub overflow_sub-end : goal.overflow_sub-end
overflow_sub-end c = let room = (told (goal.at.overflow_sub-end c).Then-is_literal).room in omega (arith, c.hashes_of.ensures)

pub overflow_sub-end-then-is_literal : goal.overflow_sub-end-then-is_literal
overflow_sub-end-then-is_literal c = let room = (told (goal.at.overflow_sub-end-then-is_literal c).Then-is_literal).room in omega (arith, c.hashes_of.ensures)

pub returns-then-is_literal : goal.returns-then-is_literal
unfolding frame_of end_of pick
returns-then-is_literal c =
    rw (
      c.quote_offset-quote.ensures,
      c.hashes_of.ensures,
      ← c.is_literal.ensures,
      c.if-is_literal.true,
      (told (goal.at.returns-then-is_literal c).Then-is_literal).snippet,
    )

pub returns-then-given : goal.returns-then-given
unfolding frame_of end_of pick
returns-then-given c =
    rw (
      c.quote_offset-quote.ensures,
      ← c.is_literal.ensures,
      c.if-is_literal.false,
      c.if-given.true,
    )

pub body_of-inside-requires : goal.body_of-inside-requires
body_of-inside-requires c = tt

pub returns : goal.returns
unfolding frame_of end_of pick
returns c =
    rw (
      c.quote_offset-quote.ensures,
      ← c.is_literal.ensures,
      c.if-is_literal.false,
      c.if-given.false,
      c.body_of-inside.ensures,
    )
