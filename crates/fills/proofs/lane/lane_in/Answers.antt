-- `fills::lane::lane_in` meets its contract: it is the lane, of the same text and the same frame.
use Rattle.fills.proofs.lane.lane_in.Goals as goal

pub lane-requires : goal.lane-requires
lane-requires c = rw (c.whole.ensures, c.own_frame.ensures) c.requires

pub returns : goal.returns
returns c = rw (c.whole.ensures, c.own_frame.ensures) at c.lane.ensures
