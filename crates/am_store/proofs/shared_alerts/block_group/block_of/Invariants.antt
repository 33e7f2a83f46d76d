use Rattle.std.proofs.Common.{◌≡◌, ◌≤◌, take, length, vec_len, vec_capacity}
use Rattle.am_store.specs.Shared.{alerts_in}
use Rattle.am_store.proofs.shared_alerts.block_group.block_of.Given as goal

abbrev pub invariant-loop-alert : goal.invariant-loop-alert
invariant-loop-alert l = (alerts_in l.block.items ≡ alerts_in (take l.alert-index l.alerts)) × (vec_len l.block ≡ l.alert-index) × (length l.alerts ≤ vec_capacity l.block)
