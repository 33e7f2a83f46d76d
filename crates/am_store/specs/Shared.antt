-- Alerts with several owners.
use Rattle.std.specs.Prelude.{ℕ, ◌+◌, ◌-◌, ◌%◌, List, map, min}
use Rattle.std.specs.Arc.{arc_value}
use Rattle.std.specs.declared.sync.Arc.{Arc}
use Rattle.std.specs.declared.alloc.Global.{Global}
use Rattle.am_alert.specs.declared.alert.Alert.{Alert}
use Rattle.am_store.specs.declared.shared_alerts.TheConstants.{BLOCK}

-- shared alerts as the alerts that they are
abbrev pub alerts_in : List (Arc Alert Global) → List Alert
alerts_in shared = map arc_value shared

-- up to where a list's alerts lie together from an index on: the next one that BLOCK divides, or the end
abbrev pub run_end : ℕ → ℕ → ℕ
run_end from count = min (from + (BLOCK - from % BLOCK)) count
