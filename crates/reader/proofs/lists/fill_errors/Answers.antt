-- A turn at a time: what was posted stands over the lent list, and what is left at the cursor makes it whole.
use Rattle.std.proofs.Common.{◌∙◌, ◌<◌, [], length, refl, sym, arith}
use Rattle.turns.specs.TurnLaws.{fresh_first}
use Rattle.reader.proofs.Filling.{over_none, over_put, with_one}
use Rattle.reader.proofs.Runs.{fault_course, begun, ended, room, goes_on, fewer, one_length}
use Rattle.reader.proofs.lists.fill_errors.Goals as goal

pub loop-turn-init : goal.loop-turn-init
loop-turn-init c =
    let a = c.args in
    record {
      filled = [];
      list = sym (over_none a.errors.now);
      count = refl;
      run = rw c.first_cursor-cursor.ensures (begun (fault_course a.text.now a.frame a.mode) (fresh_first a.text.now c.requires.0.text, omega arith));
    }

pub put-n-requires : goal.put-n-requires
put-n-requires c =
    let a = c.args in
    let v = c.loop-turn.invariant in
    let space = room (fault_course a.text.now a.frame a.mode) v.run c.in-Some.turn c.in-Some.ensures in
    omega (arith, space, v.count, c.requires.1, c.loop-turn.auto.errors)

pub loop-turn-smaller : goal.loop-turn-smaller
loop-turn-smaller c =
    let a = c.args in
    fewer (fault_course a.text.now a.frame a.mode) c.loop-turn.invariant.run c.in-Some.turn c.in-Some.ensures

pub loop-turn-preserved : goal.loop-turn-preserved
loop-turn-preserved c =
    let a = c.args in
    let k = fault_course a.text.now a.frame a.mode in
    let t = c.in-Some.turn in
    let v = c.loop-turn.invariant in
    let e = c.put-n.ensures in
    let space : length v.filled < length a.errors.now = let h = room k v.run c.in-Some.turn c.in-Some.ensures in omega (arith, h, c.requires.1) in
    record {
      filled = with_one t.front v.filled t.record;
      list = rw (v.list, v.count) at e.1 ∙ over_put v.filled a.errors.now t.record t.front space;
      count = omega (arith, e.0, v.count, one_length k v.filled (k.note t));
      run = goes_on k v.run c.in-Some.turn c.in-Some.ensures;
    }

pub returns : goal.returns
returns c =
    let a = c.args in
    let v = c.loop-turn.invariant in
    rw (v.list, v.count) (ended (fault_course a.text.now a.frame a.mode) v.run c.in_default.ensures a.errors.now)
