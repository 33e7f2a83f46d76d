use Rattle.std.proofs.Common.{◌≡◌, ◌*◌, ◌<◌, ◌≤◌, ℕ, List, take, drop, length, get_or, vec_len, vec_capacity}
use Rattle.am_alert.specs.declared.alert.Alert.{Alert}
use Rattle.am_store.specs.declared.shared_alerts.TheConstants.{GROUP}
use Rattle.am_store.specs.Shared.{alerts_in}
use Rattle.am_store.proofs.shared_alerts.StoredAlerts.new.Given as goal

abbrev pub invariant-loop-at : goal.invariant-loop-at
invariant-loop-at l = record {
  each : (k : ℕ) (d : List Alert) → k < length l.groups.items → get_or l.groups.items k d ≡ take GROUP (drop (GROUP * k) (alerts_in l.alerts.items));
  len : vec_len l.groups ≡ l.at;
  room : l.count ≤ vec_capacity l.groups;
}
