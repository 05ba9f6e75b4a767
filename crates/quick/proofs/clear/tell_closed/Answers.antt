-- `quick::clear::tell_closed` meets its contract: the place, whitespace, a spec behind a colon or none, whitespace, and the closing brace.
use borrow.Author.Tests.{eqb-true}
use native.Mathlib.Omega.{arith}
use mathlib.Core.Path.{sym, ◌∙◌}
use Rattle.quick.proofs.Bytes.{room_spaces}
use Rattle.quick.proofs.Wholes.{place_ends, tells, closed_ending, spec_inside, sound_either}
use Rattle.quick.proofs.clear.tell_closed.Goals as goal

pub clear_spec_from-requires : goal.clear_spec_from-requires
clear_spec_from-requires c = (room_spaces c.requires.small c.in_ok-placed.ensures.inside c.space_end-to.ensures, λ y. sym c.byte-colon.ensures ∙ eqb-true _ _ y)

pub overflow_add-result : goal.overflow_add-result
overflow_add-result c =
    let inside = spec_inside (place_ends c.in_ok-placed.ensures c.space_end-to.ensures) c.byte-colon.ensures c.in_ok-spec.ensures in
    let r = room_spaces c.requires.small inside c.space_end-close.ensures in
    omega (arith, r.within, r.small)

pub returns : goal.returns
returns c =
    let e = place_ends c.in_ok-placed.ensures c.space_end-to.ensures in
    tells e
    (sound_either e c.byte-colon.ensures c.in_ok-spec.ensures c.space_end-close.ensures (closed_ending (sym c.byte.ensures ∙ c.if-byte-ne-CLOSING.false)))
