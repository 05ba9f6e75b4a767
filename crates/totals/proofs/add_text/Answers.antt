-- `totals::add_text` meets its contract: a text counts once in "texts", and once in "refused" or as its steps do, and in "sound" where none found anything wrong.
use native.Mathlib.Omega.{arith}
use mathlib.Core.List.{[], ◌∷◌}
use Rattle.totals.proofs.Rooms.{room_fewer, room_added}
use Rattle.totals.proofs.Whole.{broken_so, whole_so, plain_small, was_refused, was_sound, was_wrong}
use Rattle.totals.proofs.add_text.Goals as goal

pub count_in-requires : goal.count_in-requires
count_in-requires c = room_fewer 1 0x100000 c.args.totals.now (omega arith) c.requires.2

pub valid_prefix-requires : goal.valid_prefix-requires
valid_prefix-requires c = tt

pub count_in-requires-then-valid_prefix-text : goal.count_in-requires-then-valid_prefix-text
count_in-requires-then-valid_prefix-text c = room_added 1 0x100000 c.args.totals.now (0 ∷ []) (omega arith) c.count_in.ensures c.requires.2

pub returns-then-valid_prefix-text : goal.returns-then-valid_prefix-text
returns-then-valid_prefix-text c =
    was_refused _ _ c.requires.1 (broken_so _ c.valid_prefix.ensures c.if-valid_prefix-text.true) c.count_in.ensures c.count_in-then-valid_prefix-text.ensures

pub frame_of-frame-requires : goal.frame_of-frame-requires
frame_of-frame-requires c = tt

pub add_steps-requires : goal.add_steps-requires
add_steps-requires c = (
  plain_small _ c.frame_of-frame.ensures c.requires.0,
  room_added 0xF0001 0x100000 c.args.totals.now (0 ∷ []) (omega arith) c.count_in.ensures c.requires.2,
)

pub count_in-requires-then-add_steps : goal.count_in-requires-then-add_steps
count_in-requires-then-add_steps c = c.add_steps.ensures.2

pub returns-then-add_steps : goal.returns-then-add_steps
returns-then-add_steps c =
    was_sound _ _ c.requires.1 (whole_so _ c.valid_prefix.ensures c.if-valid_prefix-text.false) c.count_in.ensures c.frame_of-frame.ensures
    c.add_steps.ensures.0 c.add_steps.ensures.1 c.if-add_steps.true c.count_in-then-add_steps.ensures

pub returns-else-add_steps : goal.returns-else-add_steps
returns-else-add_steps c =
    was_wrong _ _ c.requires.1 (whole_so _ c.valid_prefix.ensures c.if-valid_prefix-text.false) c.count_in.ensures c.frame_of-frame.ensures
    c.add_steps.ensures.0 c.add_steps.ensures.1 c.if-add_steps.false
