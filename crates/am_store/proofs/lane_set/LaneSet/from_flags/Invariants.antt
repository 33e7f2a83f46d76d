use Rattle.std.proofs.Common.{◌≡◌, ℕ, ◌<◌, ◌≤◌, false, slice_index_or}
use Rattle.am_store.specs.LaneSets.{has_lane}
use Rattle.am_store.proofs.lane_set.LaneSet.from_flags.Given as goal

abbrev pub invariant-loop-lane : goal.invariant-loop-lane
invariant-loop-lane l = record {
  below : (lane : ℕ) → lane < l.lane → has_lane l.set lane ≡ slice_index_or l.flags lane false;
  above : (lane : ℕ) → l.lane ≤ lane → has_lane l.set lane ≡ false;
  none : ((lane : ℕ) → slice_index_or l.flags lane false ≡ false) → l.set ≡ 0;
}
