use Rattle.std.proofs.Common.{◌≤◌, length}
use Rattle.json.specs.Json.{items, value}
use Rattle.serde_json.specs.Data.{Items}
use Rattle.am_posts.proofs.Streams.{Alerts-so-far}
use Rattle.am_posts.proofs.Tokens.{Items-so-far}
use Rattle.am_posts.proofs.unjudged_alert.read_alerts.Given as goal

-- the alerts so far are those of the tokens so far
abbrev pub invariant-alerts : goal.invariant-alerts
invariant-alerts l = (values : Items → Items)
    × Items-so-far (value l.depth) (items (value l.depth) (length l.initial.reader) l.initial.reader) l.reader values
    × Alerts-so-far values l.alerts.items
    × (length l.reader ≤ length l.initial.reader)

abbrev pub decreases-alerts : goal.decreases-alerts
decreases-alerts l = length l.reader
