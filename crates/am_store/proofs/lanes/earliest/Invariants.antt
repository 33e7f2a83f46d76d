use Rattle.std.specs.Option.{option_copied}
use Rattle.am_store.proofs.Earliest.{IsBest}
use Rattle.am_store.proofs.lanes.earliest.Given as goal

abbrev pub invariant-loop-lane : goal.invariant-loop-lane
invariant-loop-lane l = IsBest l.lanes l.lane-index (option_copied l.first)
