-- `totals::add_all` meets its contract: the invariant (`Taken`) says which texts are passed, that their totals are at hand, and that the list begins with them whatever it is.
use Rattle.std.specs.Prelude.{◌-◌, ◌<◌, ◌≤◌}
use Prim.Native.Nat.{◌*◌}
use native.Mathlib.Omega.{arith}
use Rattle.totals.proofs.Rooms.{room_fewer}
use Rattle.totals.proofs.Takings.{taken_start, taken_rows, taken_end, taken_none, here_few, taken_next}
use Rattle.totals.proofs.add_all.Goals as goal

pub loop-init : goal.loop-init
loop-init c =
    let start = taken_start _ _ c.requires.0 c.requires.1 c.requires.2 in
    (c.args.count, omega arith, start, taken_rows start)

pub end_at-requires : goal.end_at-requires
end_at-requires c =
    c.loop.invariant.2.inside

pub returns-in_default : goal.returns-in_default
returns-in_default c =
    let more : 0 < c.loop.invariant.0 = omega (arith, c.loop.invariant.1, c.loop-test.true) in
    taken_none c.loop.invariant.2 more c.in_default.ensures

pub overflow_add-at : goal.overflow_add-at
overflow_add-at c =
    let more : 0 < c.loop.invariant.0 = omega (arith, c.loop.invariant.1, c.loop-test.true) in
    let s = c.in-Some.ensures in
    omega (arith, s.is_end, s.inside, c.well_formed.0.0)

pub slice_bounds-add_text-count : goal.slice_bounds-add_text-count
slice_bounds-add_text-count c =
    let more : 0 < c.loop.invariant.0 = omega (arith, c.loop.invariant.1, c.loop-test.true) in
    let s = c.in-Some.ensures in
    omega (arith, s.is_end)

pub slice_bounds-add_text-start : goal.slice_bounds-add_text-start
slice_bounds-add_text-start c =
    let more : 0 < c.loop.invariant.0 = omega (arith, c.loop.invariant.1, c.loop-test.true) in
    let s = c.in-Some.ensures in
    omega (arith, s.is_end)

pub slice_bounds-add_text-end : goal.slice_bounds-add_text-end
slice_bounds-add_text-end c =
    let more : 0 < c.loop.invariant.0 = omega (arith, c.loop.invariant.1, c.loop-test.true) in
    let s = c.in-Some.ensures in
    s.inside

pub add_text-requires : goal.add_text-requires
add_text-requires c =
    let more : 0 < c.loop.invariant.0 = omega (arith, c.loop.invariant.1, c.loop-test.true) in
    let l = c.loop in
    let s = c.in-Some.ensures in (
      here_few l.invariant.2 more s,
      taken_rows l.invariant.2,
      room_fewer 0x100000 (0x100000 * l.invariant.0) l.totals (omega (arith, more)) l.invariant.2.room,
    )

pub loop-preserved : goal.loop-preserved
loop-preserved c =
    let more : 0 < c.loop.invariant.0 = omega (arith, c.loop.invariant.1, c.loop-test.true) in
    let l = c.loop in
    let s = c.in-Some.ensures in
    (c.loop.invariant.0 - 1, omega (arith, c.loop.invariant.1, c.loop-test.true), taken_next l.invariant.2 more s c.add_text.ensures, l.invariant.3)

pub returns : goal.returns
returns c =
    let done : c.loop.invariant.0 ≤ 0 = omega (arith, c.loop.invariant.1, c.loop-test.false) in
    taken_end c.loop.invariant.2 done
