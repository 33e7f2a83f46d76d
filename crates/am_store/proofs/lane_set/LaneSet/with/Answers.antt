use Rattle.std.proofs.Common.{arith}
use Rattle.std.proofs.lemmas.Grind.{common_steps}
use Rattle.am_store.proofs.LaneBits.{lane_set}
use Rattle.am_store.proofs.lane_set.LaneSet.with.Goals as goal

pub returns-clause-lanes : goal.returns-clause-lanes
returns-clause-lanes c = grind (arith, common_steps, lane_set)
