use Rattle.std.proofs.Common.{◌≡◌, ◌++◌, take, drop}
use Rattle.am_store.specs.Shared.{alerts_in}
use Rattle.am_store.specs.AlertMaps.{stored_in}
use Rattle.am_store.proofs.store.share_from.Given as goal

abbrev pub invariant-loop-alert : goal.invariant-loop-alert
invariant-loop-alert l = alerts_in l.shared.items ++ alerts_in l.alert-iterator ≡ take l.most (drop l.from (stored_in l.alerts.entries))
