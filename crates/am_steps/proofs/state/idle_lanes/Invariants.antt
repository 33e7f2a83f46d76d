use Rattle.std.proofs.Common.{◌≡◌, replicate, vec_capacity}
use Rattle.am_steps.specs.declared.lane.Lane.TheVariants.{Idle}
use Rattle.am_steps.proofs.state.idle_lanes.Given as goal

abbrev pub invariant-loop-number : goal.invariant-loop-number
invariant-loop-number l = (l.made.items ≡ replicate l._number Idle) × (vec_capacity l.made ≡ l.count)
