use Rattle.std.proofs.Common.{arith, ℕ, ◌≤◌, List, length, Option, None, Some, Bor}
use Rattle.std.specs.Option.{option_copied, IfSome}
use Rattle.am_store.specs.declared.lanes.OpenLane.{OpenLane}
use Rattle.am_store.specs.Lanes.{IsEarliest}
use Rattle.am_store.proofs.Earliest.{IsBest, best_earliest}
use Rattle.am_store.proofs.lanes.earliest.Goals as goal

some_of : (lanes : List (Option OpenLane)) (lane : ℕ) (first : Option (Bor OpenLane)) → length lanes ≤ lane → IsBest lanes lane (option_copied first) → IfSome first (λ one. IsEarliest lanes one.now)
some_of lanes lane None all best = tt
some_of lanes lane (Some one) all best = best_earliest lanes lane one.now all best

pub returns-clause-some : goal.returns-clause-some
returns-clause-some c = some_of c.args.lanes.now c.loop-lane.lane-index c.loop-lane.first (omega (arith, c.type_inv.lanes, c.loop-lane-test.false)) c.loop-lane.invariant
