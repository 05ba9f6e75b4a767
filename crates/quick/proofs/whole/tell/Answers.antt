-- `quick::whole::tell` meets its contract: the place, whitespace, a spec behind a colon or none, whitespace, and the end.
use borrow.Author.Tests.{eqb-true}
use native.Mathlib.Omega.{arith}
use mathlib.Core.Path.{sym, ◌∙◌}
use Rattle.quick.proofs.Bytes.{room_spaces}
use Rattle.quick.proofs.Wholes.{place_ends, tells, ending, spec_inside, sound_either}
use Rattle.quick.proofs.whole.tell.Goals as goal

pub spec_from-requires : goal.spec_from-requires
spec_from-requires c = (room_spaces c.requires.small c.in_ok-placed.ensures.inside c.space_end-to.ensures, λ y. sym c.byte-colon.ensures ∙ eqb-true _ _ y)

pub hint_unless-hint-requires : goal.hint_unless-hint-requires
hint_unless-hint-requires c =
    let inside = spec_inside (place_ends c.in_ok-placed.ensures c.space_end-to.ensures) c.byte-colon.ensures c.in_ok-spec.ensures in
    (room_spaces c.requires.small inside c.space_end-close.ensures, λ y. sym c.byte-b.ensures ∙ eqb-true _ _ y)

pub onward-requires : goal.onward-requires
onward-requires c =
    let inside = spec_inside (place_ends c.in_ok-placed.ensures c.space_end-to.ensures) c.byte-colon.ensures c.in_ok-spec.ensures in
    let r = room_spaces c.requires.small inside c.space_end-close.ensures in
    omega (arith, r.within, r.small)

pub returns : goal.returns
returns c =
    let e = place_ends c.in_ok-placed.ensures c.space_end-to.ensures in
    tells e
    (sound_either e c.byte-colon.ensures c.in_ok-spec.ensures c.space_end-close.ensures
    (ending c.byte-b.ensures (record { question = c.if-b-eq63.false; dot = c.if-b-eq46.false }) c.hint_unless-hint.ensures c.onward.ensures))
