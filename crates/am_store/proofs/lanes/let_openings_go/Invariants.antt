use Rattle.std.proofs.Common.{◌≡◌}
use Rattle.am_store.specs.Lanes.{all_subscribed_at}
use Rattle.am_store.proofs.lanes.let_openings_go.Given as goal

abbrev pub invariant-loop-lane : goal.invariant-loop-lane
invariant-loop-lane l = all_subscribed_at l.lanes ≡ all_subscribed_at l.initial.lanes
