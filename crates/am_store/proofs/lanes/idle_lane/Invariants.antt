use Rattle.std.proofs.Common.{ℕ, ◌<◌}
use Rattle.std.specs.Option.{IsSome}
use Rattle.am_store.specs.Lanes.{lane_at}
use Rattle.am_store.proofs.lanes.idle_lane.Given as goal

abbrev pub invariant-loop-lane : goal.invariant-loop-lane
invariant-loop-lane l = (other : ℕ) → other < l.lane → IsSome (lane_at l.lanes other)
