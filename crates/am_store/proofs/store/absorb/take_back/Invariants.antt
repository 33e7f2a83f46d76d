use Rattle.std.proofs.Common.{◌≡◌}
use Rattle.am_store.specs.AlertMaps.{all_taken_back}
use Rattle.am_store.proofs.store.absorb.take_back.Given as goal

abbrev pub invariant-loop-change : goal.invariant-loop-change
invariant-loop-change l = all_taken_back l.left.items l.alerts.entries ≡ all_taken_back l.fn.changes.items l.fn.alerts.entries

abbrev pub decreases-loop-change : goal.decreases-loop-change
decreases-loop-change l = goal.left-loop-change l
