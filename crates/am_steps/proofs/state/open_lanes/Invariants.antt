use Rattle.std.proofs.Common.{◌≡◌, replicate, vec_capacity}
use Rattle.am_steps.specs.States.{new_open_lane}
use Rattle.am_steps.proofs.state.open_lanes.Given as goal

abbrev pub invariant-loop-number : goal.invariant-loop-number
invariant-loop-number l = (l.made.items ≡ replicate l._number new_open_lane) × (vec_capacity l.made ≡ l.count)
