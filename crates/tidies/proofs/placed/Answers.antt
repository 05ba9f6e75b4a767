-- `tidies::placed` meets its contract: an output as long as the text has room, and of another the measure tells.
use Rattle.tidies.proofs.PlacedLaws.{ready_room, without_room}
use Rattle.tidies.proofs.placed.Goals as goal

pub written-requires : goal.written-requires
written-requires c =
    let ready = c.requires in
    (ready, ready_room ready _ c.if-text-out.true)

pub returns-then-out-bytes : goal.returns-then-out-bytes
returns-then-out-bytes c = without_room _ c.measured-bytes.ensures c.if-out-bytes.true c.refused.ensures
