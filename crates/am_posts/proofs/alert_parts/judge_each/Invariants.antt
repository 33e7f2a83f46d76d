use Rattle.std.proofs.Common.{◌≡◌, ◌+◌, drop, length, All}
use Rattle.am_posts.specs.FromParts.{elements_from}
use Rattle.am_alert.specs.ValidAlerts.{IsWellFormed}
use Rattle.am_posts.proofs.Arrays.{with_front}
use Rattle.am_posts.proofs.alert_parts.judge_each.Given as goal

-- what is left is judged from the number of those before it on
abbrev pub invariant-loop-alert : goal.invariant-loop-alert
invariant-loop-alert l =
    (length l.valid.items + length l.faults.items ≡ l.alert-index)
    × (with_front (l.valid.items, l.faults.items) (elements_from l.alert-index (drop l.alert-index l.alerts)) ≡ elements_from 0 l.alerts)
    × All IsWellFormed l.valid.items
