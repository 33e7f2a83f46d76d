use Rattle.std.proofs.Common.{◌≡◌, ◌++◌, filter}
use Rattle.am_alert.specs.Merging.{is_resolved_at}
use Rattle.am_store.specs.Shared.{alerts_in}
use Rattle.am_store.specs.AlertMaps.{stored_in}
use Rattle.am_store.proofs.store.Store.share_resolved.Given as goal

abbrev pub invariant-loop-alert : goal.invariant-loop-alert
invariant-loop-alert l = alerts_in l.resolved.items ++ filter (is_resolved_at l.now) (alerts_in l.alert-iterator) ≡ filter (is_resolved_at l.now) (stored_in l.self)
